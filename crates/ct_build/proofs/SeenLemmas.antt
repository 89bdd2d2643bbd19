-- The set of keys of rows: its test tells keys apart, and one more row is seen.
use Rattle.std.proofs.Common.{◌≡◌, ◌⊎◌, ℕ, Bool, true, false, not, cond, refl, nat_eq, List, [], slice_get, Some, Decides, sym, ◌∙◌, ap, subst, inl, inr, true≢false}
use Rattle.std.specs.List.{list_any}
use Rattle.std.proofs.lemmas.Bool.{cases_Bool}
use Rattle.std.proofs.lemmas.Bool.Decides.{Decides-and, Decides-eqb}
use Rattle.std.proofs.lemmas.Option.{none-some}
use lib.Pointwise.{pointwise_decides}
use Rattle.indexmap.specs.IndexSet.{IndexSet, contains}
use Rattle.ct_values.specs.declared.node.NodeId.{NodeId}
use Rattle.ct_values.specs.NodeIdTest.{same_node, same_nodes}
use Rattle.ct_eval.specs.declared.interp.Row.{Row}
use Rattle.ct_eval.specs.declared.interp.Table.{Table}
use Rattle.ct_build.specs.declared.rows.RowKey.{RowKey}
use Rattle.ct_build.specs.Tables.{AddsRow, AddsFirst, HasRowFor}
use Rattle.ct_build.specs.Seen.{same_row_key, AreSeen}
use Rattle.ct_build.proofs.RowLemmas.{row_there, row_stays, row_source}

Decides-same_node : (m n : NodeId) → Decides (same_node m n) (m ≡ n)
Decides-same_node m n =
    let d = Decides-eqb m.0 n.0 in
    (λ h i. record { 0 = d.0 h i }, λ e. d.1 (ap (λ k. k.0) e))

-- the derived test of two keys tells whether they are the same
Decides-same_row_key : (a b : RowKey) → Decides (same_row_key a b) (a ≡ b)
Decides-same_row_key a b =
    let both = Decides-and (nat_eq a.table b.table) (same_nodes a.args b.args) (Decides-eqb a.table b.table) (pointwise_decides Decides-same_node a.args b.args) in
    (λ h i. record { table = (both.0 h).0 i; args = (both.0 h).1 i }, λ e. both.1 (ap (λ k. k.table) e, ap (λ k. k.args) e))

-- a key that was new was not there
pub fresh_from : (had new : Bool) → new ≡ not had → new ≡ true → had ≡ false
fresh_from true new is yes_is = absurd (true≢false (sym yes_is ∙ is))
fresh_from false new is yes_is = refl

-- nothing is seen at the start, where no table has a row
pub seen_none : {S : Type 0} (seen : IndexSet RowKey S) (tables : List Table) → seen.keys ≡ [] → ((k : ℕ) (table : Table) → slice_get tables k ≡ Some table → table.rows ≡ []) → AreSeen seen tables
seen_none seen tables e empty key = (
  λ has. absurd (true≢false (sym has ∙ ap (λ (ks : List RowKey). list_any (same_row_key key) ks) e)),
  λ there. absurd (none-some there.row (ap (λ (l : List Row). slice_get l there.index) (sym (empty key.table there.table there.at)) ∙ there.listed)),
)

module _ {S T : Type 0} (seen : IndexSet RowKey S) (more : IndexSet RowKey T) (key : RowKey) (writes : (k : RowKey) → contains same_row_key more k ≡ cond (same_row_key key k) true (contains same_row_key seen k)) where
  -- where the tables have one row more, for the key, or had it, the keys that are seen are those of their rows
  seen_more : (old new : List Table) → HasRowFor new key.table key.args → ((k : RowKey) → HasRowFor old k.table k.args → HasRowFor new k.table k.args) → ((k : RowKey) → HasRowFor new k.table k.args → HasRowFor old k.table k.args ⊎ (key ≡ k)) → AreSeen seen old → AreSeen more new
  seen_more old new here stays source are k = (
    λ has. elim (cases_Bool (same_row_key key k)) [
      | inl yes_is ↦ subst (λ (q : RowKey). HasRowFor new q.table q.args) ((Decides-same_row_key key k).0 yes_is) here
      | inr no_is ↦ stays k ((are k).0 (sym (ap (λ (b : Bool). cond b true (contains same_row_key seen k)) no_is) ∙ sym (writes k) ∙ has))
    ],
    λ there. elim (source k there) [
      | inl had ↦ writes k ∙ ap (cond (same_row_key key k) true) ((are k).1 had) ∙ either (same_row_key key k)
      | inr same ↦ writes k ∙ ap (λ (b : Bool). cond b true (contains same_row_key seen k)) ((Decides-same_row_key key k).1 same)
    ],
  )
    where
      either : (b : Bool) → cond b true true ≡ true
      either true = refl
      either false = refl

  -- a key that is new, with its row
  pub seen_first : (old new : List Table) (row : Row) → row.args ≡ key.args → contains same_row_key seen key ≡ false → AddsRow old new key.table row → AreSeen seen old → AreSeen more new × AddsFirst old new key.table row
  seen_first old new row args_are fresh added are =
      let adds : AddsFirst old new key.table row = inr ((λ had. true≢false (sym ((are key).1 (subst (HasRowFor old key.table) args_are had)) ∙ fresh)), added) in (
        seen_more old new (subst (HasRowFor new key.table) args_are (row_there old new key.table row adds)) (λ k has. row_stays old new key.table row adds k.table k.args has) (source adds) are,
        adds,
      )
    where
      source : AddsFirst old new key.table row → (k : RowKey) → HasRowFor new k.table k.args → HasRowFor old k.table k.args ⊎ (key ≡ k)
      source adds k there = elim (row_source old new key.table row adds k.table there.index there.table there.row there.at there.listed) [
        | inl (before, at, listed) ↦ inl (record { table = before; index = there.index; row = there.row; at = at; listed = listed; args_are = there.args_are })
        | inr (number, same) ↦
            let one : key.args ≡ k.args = sym args_are ∙ ap (λ (r : Row). r.args) (sym same) ∙ there.args_are in
            inr (λ i. record { table = sym number i; args = one i })
      ]
