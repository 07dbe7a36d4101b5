use Rattle.laws_alike.proofs.Questions.{callable_alike, has_alike, type_alike}
use Rattle.laws_alike.proofs.asking.questions_go_alike.Goals as goal

pub returns : goal.returns
returns c = record {
  callable = λ world value other h. callable_alike value other h;
  type_of = λ world value other h. type_alike value other h;
  has_own = λ world base other_base key other_key e h. has_alike base other_base key other_key e h;
}
