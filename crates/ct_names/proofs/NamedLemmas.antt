-- A sort that is named: found, added, missing or refused.
use Rattle.std.proofs.Common.{◌≡◌, ℕ, [], Result, Ok, Err, IsErrOf, refl, sym, ◌∙◌, ap, subst}
use Rattle.ct_generics.specs.declared.expr.SortExpr.{SortExpr}
use Rattle.ct_generics.specs.Declarations.{Declared}
use Rattle.ct_generics.specs.Expression.{Expression}
use Rattle.ct_sexpr.specs.Expression.{Expression as Sexpr}
use Rattle.ct_sorts.specs.declared.ids.SortId.{SortId}
use Rattle.ct_sorts.specs.Declarations.{Declarations}
use Rattle.ct_names.specs.declared.error.CheckError.{CheckError}
use Rattle.ct_names.specs.declared.error.CheckError.TheVariants.{Refused}
use Rattle.ct_names.specs.declared.needs.Needs.{Needs}
use Rattle.ct_names.specs.declared.stop.Stop.{Stop}
use Rattle.ct_names.specs.Answer.{StopsAt, as_it_is}
use Rattle.ct_names.specs.Needs.{Reaches}
use Rattle.ct_names.specs.Sorts.{written_sort, sort_there, sort_of}
use Rattle.ct_names.specs.Stopped.{stop_of}
use Rattle.ct_names.proofs.AddLemmas.{sort_of_is}
use Rattle.ct_names.proofs.AnswerLemmas.{stops_along, stops_of}
use Rattle.ct_names.proofs.NeedLemmas.{reaches_same}
use Rattle.ct_names.proofs.RefusalLemmas.{refused_answers}

-- what the expression writes, where the same is declared
written_later : (d later : Declarations) (x : Sexpr) (e : Expression) → later.declared ≡ d.declared → written_sort d.declared [] x ≡ Ok e → sort_of later x ≡ sort_there later e
written_later d later x e same is = sort_of_is later x e (subst (λ (declared : Declared). written_sort declared [] x ≡ Ok e) (sym same) is)

pub named_value : (needs : Needs) (d later : Declarations) (x : Sexpr) (e : Expression) (r : Result SortId Stop) → later.declared ≡ d.declared → written_sort d.declared [] x ≡ Ok e → StopsAt needs later as_it_is (sort_there later e) r → StopsAt needs later as_it_is (sort_of later x) r
named_value needs d later x e r same is h = stops_along needs later as_it_is (sort_of later x) (sort_there later e) r (written_later d later x e same is) h

pub named_reaches : (d later : Declarations) (x : Sexpr) (e : Expression) → written_sort d.declared [] x ≡ Ok e → Reaches (λ (n : Declarations). sort_there n e) d later → Reaches (λ (n : Declarations). sort_of n x) d later
named_reaches d later x e is h = reaches_same (λ (n : Declarations). sort_there n e) (λ (n : Declarations). sort_of n x) d later (λ n grows. written_later d n x e grows.declared is) h

pub named_refused : (needs : Needs) (d : Declarations) (x : Sexpr) (e : CheckError) (r : Result SortId Stop) (why : Stop) → r ≡ Err why → why ≡ stop_of e → ((n : ℕ) → IsErrOf {T = SortExpr} {E = CheckError} (Err e) (Refused n) → written_sort d.declared [] x ≡ Err n) → StopsAt needs d as_it_is (sort_of d x) r
named_refused needs d x e r why is from refuses =
    subst (StopsAt needs d as_it_is (sort_of d x)) (sym (is ∙ ap Err from))
    (stops_of needs d (as_it_is {X = Expression}) as_it_is (sort_of d x) (written_sort d.declared [] x) (sort_there d) e refl (refused_answers as_it_is (written_sort d.declared [] x) e refuses))
