use Rattle.std.proofs.Common.{◌≡◌, ◌-◌, ◌<◌, ℕ, List, drop, length-take, subst, sym, arith}
use Rattle.spec_format.specs.Container.{section_count, section_start}
use Rattle.spec_format.proofs.Containers.{checked_from}
use Rattle.snap_blob.proofs.container.Container.section.Goals as goal

pub part-requires : goal.part-requires
part-requires c =
    let bytes = c.self.inside.bytes.now in
    let below : c.args.k < section_count bytes = subst (λ (b : List ℕ). c.args.k < section_count b) (sym c.self.view_is) c.requires in
    let starts : c.start-start.result ≡ section_start bytes c.args.k = subst (λ (b : List ℕ). c.start-start.result ≡ section_start b c.args.k) (sym c.self.view_is) c.start-start.ensures in
    let here = checked_from bytes c.self.invariant in
    record { ordered = omega (arith, here.ordered c.args.k below, starts, c.number32-end.ensures); within = omega (arith, here.within c.args.k below, c.number32-end.ensures) }

pub returns-clause-within : goal.returns-clause-within
returns-clause-within c =
    let bytes = c.self.inside.bytes.now in
    let below : c.args.k < section_count bytes = subst (λ (b : List ℕ). c.args.k < section_count b) (sym c.self.view_is) c.requires in
    let starts : c.start-start.result ≡ section_start bytes c.args.k = subst (λ (b : List ℕ). c.start-start.result ≡ section_start b c.args.k) (sym c.self.view_is) c.start-start.ensures in
    let here = checked_from bytes c.self.invariant in
    rw (← c.start-start.ensures, c.part.ensures) (omega (arith, here.ordered c.args.k below, here.within c.args.k below, here.short, starts, c.number32-end.ensures, length-take (c.number32-end.result - c.start-start.result) (drop c.start-start.result bytes)))
