use Rattle.std.proofs.Common.{arith, drop, map, sym, subst, ap, ◌∙◌, ◌≡◌, length, ℕ, ◌+◌, ◌-◌, ◌<◌, List, [], ◌∷◌, ◌++◌}
use Rattle.spec_tokens.specs.Tokens.{Lexeme}
use Rattle.snap_lex.specs.View.{views}
use Rattle.snap_commands.specs.Thin.{thin_of}
use Rattle.snap_commands.specs.ThinSource.{thin_statements}
use Rattle.std.proofs.lemmas.List.{drop_all, map-append}
use Rattle.snap_commands.proofs.Places.{count_left, left_by, none_by}
use Rattle.snap_commands.proofs.Statements.{breaks_off, goes_on, is_cut, is_done, with_front}
use Rattle.snap_commands.proofs.judge.statements.Goals as goal

-- src/judge.rt:67:13
pub returns-then-at-tokens : goal.returns-then-at-tokens
returns-then-at-tokens c =
    let ts = c.args.tokens.now in
    let none : views (drop c.loop.at ts) ≡ [] = ap views (drop_all c.loop.at ts (omega (arith, c.if-at-tokens.true))) in
    sym (is_done (map thin_of c.loop.list.items) (length ts - c.loop.counter) (thin_statements (length ts) (views ts)) (subst (λ (ls : List Lexeme). with_front (map thin_of c.loop.list.items) (thin_statements (length ts - c.loop.counter) ls) ≡ thin_statements (length ts) (views ts)) none c.loop.invariant.read))

-- src/judge.rt:71:13
pub returns-in_default : goal.returns-in_default
returns-in_default c =
    let ts = c.args.tokens.now in
    let some : 0 < length (views (drop c.loop.at ts)) = omega (arith, count_left ts c.loop.at, c.loop.invariant.within, c.if-at-tokens.false) in
    sym (breaks_off (map thin_of c.loop.list.items) (length ts) c.loop.counter (views (drop c.loop.at ts)) (thin_statements (length ts) (views ts)) c.loop-test.true some (none_by ts c.loop.at (sym c.in_default.ensures)) c.loop.invariant.read)

-- src/judge.rt:74:14
pub overflow_sub-at : goal.overflow_sub-at
overflow_sub-at c = (left_by c.args.tokens.now c.in-Some.behind.now c.loop.at (thin_of c.in-Some.statement) c.loop.invariant.within (sym c.in-Some.ensures)).1

-- src/judge.rt:65:5
pub loop-preserved : goal.loop-preserved
loop-preserved c =
    let ts = c.args.tokens.now in
    let bs = c.in-Some.behind.now in
    let front = map thin_of c.loop.list.items in
    let total = thin_statements (length ts) (views ts) in
    let left = left_by ts bs c.loop.at (thin_of c.in-Some.statement) c.loop.invariant.within (sym c.in-Some.ensures) in
    let some : 0 < length (views (drop c.loop.at ts)) = omega (arith, count_left ts c.loop.at, c.loop.invariant.within, c.if-at-tokens.false) in
    let more : with_front (front ++ thin_of c.in-Some.statement ∷ []) (thin_statements (length ts - (c.loop.counter + 1)) (views bs)) ≡ total =
    goes_on front (length ts) c.loop.counter (views (drop c.loop.at ts)) (views bs) (thin_of c.in-Some.statement) total c.loop-test.true some left.0 c.loop.invariant.read in
    let pushed : map thin_of c.push.new.self.items ≡ front ++ thin_of c.in-Some.statement ∷ [] = ap (map thin_of) c.in_ok-push.ensures.items ∙ map-append thin_of c.loop.list.items (c.in-Some.statement ∷ []) in
    record {
      read = rw (pushed, left.2) more;
      within = omega arith;
    }

-- src/judge.rt:77:9
pub returns-then-at-tokens-2 : goal.returns-then-at-tokens-2
returns-then-at-tokens-2 c =
    let ts = c.args.tokens.now in
    let some : 0 < length (views (drop c.loop.at ts)) = omega (arith, count_left ts c.loop.at, c.if-at-tokens-2.true) in
    let spent : length ts - c.loop.counter ≡ 0 = omega (arith, c.loop-test.false) in
    sym (is_cut (map thin_of c.loop.list.items) (views (drop c.loop.at ts)) (thin_statements (length ts) (views ts)) some (subst (λ (k : ℕ). with_front (map thin_of c.loop.list.items) (thin_statements k (views (drop c.loop.at ts))) ≡ thin_statements (length ts) (views ts)) spent c.loop.invariant.read))

-- src/judge.rt:57:1
pub returns : goal.returns
returns c =
    let ts = c.args.tokens.now in
    let none : views (drop c.loop.at ts) ≡ [] = ap views (drop_all c.loop.at ts (omega (arith, c.if-at-tokens-2.false))) in
    sym (is_done (map thin_of c.loop.list.items) (length ts - c.loop.counter) (thin_statements (length ts) (views ts)) (subst (λ (ls : List Lexeme). with_front (map thin_of c.loop.list.items) (thin_statements (length ts - c.loop.counter) ls) ≡ thin_statements (length ts) (views ts)) none c.loop.invariant.read))
