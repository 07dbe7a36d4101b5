use Rattle.std.proofs.Common.{◌≡◌, ℕ, length, ap, ◌∙◌, arith, ◌∷◌}
use Rattle.std.proofs.lemmas.List.{length-map}
use Rattle.snap_scope.proofs.Levels.{IsInside, chains_more, levels_more}
use Rattle.snap_scope.specs.Chains.{Table, level_chain, scopes_of}
use Rattle.snap_scope.proofs.chains.Chains.add.Goals as goal

long : (c : goal.In_ok-push) → c.len-number.result ≡ length c.self.inside.levels.items
long c = omega (arith, c.len-number.ensures, c.self.inside.levels.ok.0)

is_inside : (c : goal.In_ok-push) → IsInside c.self.inside.levels.items c.args.outer c.index.result.now c.in_ok-level.level c.args.kind c.args.slots
is_inside c = record {
  below = omega (arith, ap (λ (t : Table). length t.chains) c.self.view_is, length-map c.self.inside.levels.items (level_chain (scopes_of c.self.inside.levels.items)));
  around_is = c.index.ensures;
  kind_is = c.in_ok-level.ensures.kind;
  slots_is = c.in_ok-level.ensures.slots;
  needs_is = c.in_ok-level.ensures.needs;
  scopes_is = c.in_ok-level.ensures.scopes ∙ ap (λ (n : ℕ). n ∷ c.index.result.now.scopes.items) (long c);
}

pub returns-clause-chains : goal.returns-clause-chains
returns-clause-chains c =
    chains_more c.self.inside.levels.items c.args.outer c.index.result.now c.in_ok-level.level c.args.kind c.args.slots c.self.invariant (is_inside c) c.push.new.self.items c.args.self.now c.in_ok-push.ensures.items c.self.view_is

pub invariant_of-self-2 : goal.invariant_of-self-2
invariant_of-self-2 c =
    levels_more c.self.inside.levels.items c.args.outer c.index.result.now c.in_ok-level.level c.args.kind c.args.slots c.self.invariant (is_inside c) c.push.new.self.items c.args.self.now c.in_ok-push.ensures.items c.self.view_is c.requires.few
