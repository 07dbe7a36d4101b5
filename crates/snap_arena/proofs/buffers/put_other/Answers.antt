use Rattle.std.proofs.Common.{◌≡◌, ◌<◌, ◌++◌, length, ℕ, List, Vec, Global, sym, ap, subst, ◌∙◌, arith}
use Rattle.std.proofs.lemmas.List.{set-set}
use Rattle.snap_arena.specs.Texts.{IsHeld, contents, text_in}
use Rattle.snap_arena.proofs.Contents.{anyhow, with_more, with_same, other_held, other_text}
use Rattle.snap_arena.proofs.buffers.put_other.Goals as goal

pub units_of-requires : goal.units_of-requires
units_of-requires c =
    subst (λ (all : List (Vec ℕ Global)). IsHeld (contents all) c.args.text) (sym c.deref.ensures.value) (other_held c.args.buffers.now.items c.args.number c.replace-buffer.new.dest c.args.text c.requires.other c.requires.held)

pub returns-in_err-put-clause-err : goal.returns-in_err-put-clause-err
returns-in_err-put-clause-err c =
    let buffers = c.args.buffers.now.items in
    let within : c.args.number < length buffers = omega (arith, c.args.buffers.now.ok) in
    let same : c.extend_from_slice-put.new.self.items ≡ c.index_mut.result.now.items = c.in_err-put.ensures.items ∙ ap (λ (b : Vec ℕ Global). b.items) c.replace-buffer.ensures.value in
    anyhow c.from_residual.result (ap contents (set-set buffers c.args.number c.replace-buffer.new.dest c.extend_from_slice-put.new.self) ∙ with_same buffers c.args.number c.index_mut.result.now c.extend_from_slice-put.new.self within c.index_mut.ensures.value same)

pub returns-clause-ok : goal.returns-clause-ok
returns-clause-ok c =
    let buffers = c.args.buffers.now.items in
    let within : c.args.number < length buffers = omega (arith, c.args.buffers.now.ok) in
    let units : c.units_of.result.now ≡ text_in (contents buffers) c.args.text =
    c.units_of.ensures ∙ ap (λ (all : List (Vec ℕ Global)). text_in (contents all) c.args.text) c.deref.ensures.value ∙ other_text buffers c.args.number c.replace-buffer.new.dest c.args.text c.requires.other in
    let put : c.extend_from_slice-put.new.self.items ≡ c.index_mut.result.now.items ++ text_in (contents buffers) c.args.text =
    c.in_ok-put.ensures.items ∙ ap (λ (b : Vec ℕ Global). b.items ++ c.units_of.result.now) c.replace-buffer.ensures.value ∙ ap (λ (more : List ℕ). c.index_mut.result.now.items ++ more) units in
    ap contents (set-set buffers c.args.number c.replace-buffer.new.dest c.extend_from_slice-put.new.self) ∙ with_more buffers c.args.number c.index_mut.result.now c.extend_from_slice-put.new.self (text_in (contents buffers) c.args.text) within c.index_mut.ensures.value put
