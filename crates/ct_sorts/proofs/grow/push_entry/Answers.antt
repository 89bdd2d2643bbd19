use Rattle.std.proofs.Common.{◌≡◌, ℕ, ◌<◌, ◌++◌, All, List, [], ◌∷◌, length, Some, None, slice_get, unwrap_or, if◌then◌else◌, ◌==◌, refl, sym, ◌∙◌, ap, ap₂, subst}
use Rattle.std.proofs.lemmas.Option.{same_Some}
use Rattle.ct_generics.specs.declared.nodes.ExprId.{ExprId}
use Rattle.ct_generics.specs.Declarations.{Head}
use Rattle.ct_generics.specs.Denoted.{declared_of, sorts_of}
use Rattle.ct_generics.specs.Expression.{Expression, args_of, head_of}
use Rattle.ct_generics.specs.Nodes.{StandFor}
use Rattle.ct_sorts.specs.declared.entries.SortEntry.{SortEntry}
use Rattle.ct_sorts.specs.declared.ids.SortId.{SortId}
use Rattle.ct_sorts.specs.Availability.{IsListed}
use Rattle.ct_sorts.specs.Kinds.{kind_of}
use Rattle.ct_sorts.specs.Lookup.{names_of}
use Rattle.ct_sorts.specs.SortText.{head_name, name_of_head, sort_name, sort_text}
use Rattle.ct_sorts.specs.TextParts.{text_with, texts_of}
use Rattle.ct_sorts.proofs.EntryLemmas.{AreNumbersOf, args_numbered, numbers_below, text_entry, name_is, as_many, args_many}
use Rattle.ct_sorts.proofs.ResultLemmas.{on_ok, begins_pushed}
use Rattle.ct_sorts.proofs.grow.push_entry.Goals as goal

pub numbers-requires-clause-few : goal.numbers-requires-clause-few
numbers-requires-clause-few c = c.requires.few

pub numbers-requires-clause-there : goal.numbers-requires-clause-there
numbers-requires-clause-there c =
    subst (All (λ (id : ExprId). (i : ℕ) × (slice_get c.args.tables.now.table.sorts i ≡ Some id))) (sym c.as_slice.ensures.value) (λ k id within. let at = c.requires.args k id within in (at.0, at.2))

pub head_name-name-requires : goal.head_name-name-requires
head_name-name-requires c = record { within = (declared_of c.args.tables.now.generics, c.requires.standing.declared, c.requires.head) }

pub head_kind-requires : goal.head_kind-requires
head_kind-requires c = record { within = (declared_of c.args.tables.now.generics, c.requires.standing.declared, c.requires.head) }

pub sort_text-requires : goal.sort_text-requires
sort_text-requires c =
    let t = c.args.tables.now in
    let ns = c.in_ok-args.args in
    let numbers : AreNumbersOf t.table.sorts ns c.args.spine.now.args = subst (AreNumbersOf t.table.sorts ns) c.as_slice.ensures.value c.in_ok-args.ensures.ok in
    record {
      args = subst (All (λ (s : SortId). s.0 < length t.sorts)) (sym c.as_slice-2.ensures.value)
          (numbers_below t.table.expressions t.table.sorts (sorts_of t.table) c.requires.standing.stand c.requires.different (length t.sorts) ns c.args.spine.now.args numbers c.requires.args);
    }

pub push-requires : goal.push-requires
push-requires c =
    let t = c.args.tables.now in
    let ns = c.in_ok-args.args in
    let fresh = c.requires.fresh in
    let known = c.head_name-name.ensures.name (declared_of t.generics) c.requires.standing.declared in
    let numbers : AreNumbersOf t.table.sorts ns c.args.spine.now.args = subst (AreNumbersOf t.table.sorts ns) c.as_slice.ensures.value c.in_ok-args.ensures.ok in
    let below = numbers_below t.table.expressions t.table.sorts (sorts_of t.table) c.requires.standing.stand c.requires.different (length t.sorts) ns c.args.spine.now.args numbers c.requires.args in
    let text = c.new.ensures.value ∙ c.in_ok-text.ensures.ok ∙ ap₂ (λ (name : List ℕ) (xs : List SortId). text_with name (texts_of (names_of t.sorts) xs)) known.2 c.as_slice-2.ensures.value
    ∙ text_entry t ns c.args.spine.now.args c.args.head.0 known.0 fresh.0 numbers fresh.1 fresh.2 known.1 c.requires.standing.stand below c.requires.texts in
    record { fresh = λ listed. fresh.3 (subst (IsListed (names_of t.sorts)) text listed) }

pub returns-clause-ok : goal.returns-clause-ok
returns-clause-ok c =
    let t = c.args.tables.now in
    let heads = (declared_of t.generics).heads in
    let ns = c.in_ok-args.args in
    let ids = c.args.spine.now.args in
    let entry : SortEntry = record { name = c.in_ok-plain.plain; head = c.args.head.0; args = ns; kind = c.kind_of.result; ctors = c.args.ctors } in
    let numbers : AreNumbersOf t.table.sorts ns ids = subst (AreNumbersOf t.table.sorts ns) c.as_slice.ensures.value c.in_ok-args.ensures.ok in
    let below = numbers_below t.table.expressions t.table.sorts (sorts_of t.table) c.requires.standing.stand c.requires.different (length t.sorts) ns ids numbers c.requires.args in
    let named = c.head_name-name.ensures.name (declared_of t.generics) c.requires.standing.declared in
    let kinded = c.head_kind.ensures.kind (declared_of t.generics) c.requires.standing.declared in
    on_ok c.push.result (λ pushed e known zipped is at.
    let text : c.new.result ≡ sort_text heads e = c.new.ensures.value ∙ c.in_ok-text.ensures.ok ∙ ap₂ (λ (name : List ℕ) (xs : List SortId). text_with name (texts_of (names_of t.sorts) xs)) named.2 c.as_slice-2.ensures.value
    ∙ text_entry t ns ids c.args.head.0 named.0 e numbers zipped is named.1 c.requires.standing.stand below c.requires.texts in
    let many : length ns ≡ length (args_of e) = as_many t.table.sorts ns ids numbers ∙ args_many t.table.expressions ids (args_of e) zipped in
    let name : unwrap_or c.in_ok-plain.plain (sort_text heads e) ≡ sort_name heads e =
    ap (λ plain. unwrap_or plain (sort_text heads e)) (c.in_ok-plain.ensures.ok ∙ ap₂ (λ (xs : List SortId) (n : List ℕ). if length xs == 0 then Some n else None) c.as_slice-3.ensures.value (named.2 ∙ sym (ap name_of_head named.1)))
    ∙ name_is heads e c.args.head.0 ns is many in
    let kind : c.kind_of.result ≡ kind_of known.kind = c.kind_of.ensures.value ∙ ap kind_of (kinded.2 ∙ ap (λ (h : Head). h.kind) (same_head heads c.args.head.0 kinded.0 known kinded.1 at)) in (
      entry,
      pushed ∙ ap (λ (x : List ℕ). t.sorts ++ (x, entry) ∷ []) text,
      (λ i. record { name = name i; kind = kind i; ctors = c.args.ctors }),
      record { head_is = is; args_are = args_numbered t.table.expressions t.table.sorts (sorts_of t.table) c.requires.standing.stand ns ids (args_of e) numbers zipped },
    )) c.push.ensures.ok
  where
    same_head : (heads : List Head) (h : ℕ) (a b : Head) → slice_get heads h ≡ Some a → slice_get heads h ≡ Some b → a ≡ b
    same_head heads h a b at_a at_b = same_Some a b (sym at_a ∙ at_b)

pub returns-clause-grown : goal.returns-clause-grown
returns-clause-grown c =
    begins_pushed c.push.result c.args.tables.now.sorts c.push.new.self (c.new.result, record { name = c.in_ok-plain.plain; head = c.args.head.0; args = c.in_ok-args.args; kind = c.kind_of.result; ctors = c.args.ctors }) c.push.ensures.ok c.push.ensures.unchanged
