use Rattle.std.proofs.Common.{◌≡◌, ℕ, suc, ◌-◌, ◌<◌, ap, arith}
use Rattle.spec_grammar.specs.Read.{phrase}
use Rattle.snap_parse.proofs.reader.+read_phrase.Goals as goal

deeper : {X : Type 0} (f : ℕ → X) (n : ℕ) → 0 < n → f n ≡ f (suc (n - 1))
deeper f n some = let e : n ≡ suc (n - 1) = omega arith in ap f e

pub returns-then-levels-eq0 : goal.returns-then-levels-eq0
unfolding phrase
returns-then-levels-eq0 t c _ = let none : c.args.levels ≡ 0 = omega arith in ap (λ n. phrase n c.args.start c.args.cursor.now) none

pub returns : goal.returns
unfolding phrase
returns t c = rw (deeper (λ n. phrase n c.args.start c.args.cursor.now) c.args.levels (omega arith)) c.start.ensures
