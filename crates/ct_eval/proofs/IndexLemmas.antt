-- The map of rows: its test tells keys apart, and one more row gives what one more row of the table gives.
use Rattle.std.proofs.Common.{◌≡◌, ℕ, ◌<◌, length, ◌↔◌, ◌⊎◌, Bool, true, false, cond, IsTrue, List, [], ◌∷◌, ◌++◌, Option, Some, None, nat_eq, Decides, refl, sym, ap, ap₂, subst, ◌∙◌, inl, inr, true≢false}
use Rattle.std.specs.List.{AllByRecursion}
use Rattle.std.proofs.lemmas.Bool.Decides.{Decides-and, Decides-eqb}
use Rattle.std.proofs.lemmas.List.{append-nil}
use Rattle.std.proofs.lemmas.Option.{none-some, same_Some}
use lib.Pointwise.{pointwise_decides}
use Rattle.indexmap.specs.IndexMap.{IndexMap, get}
use Rattle.ct_values.specs.declared.node.NodeId.{NodeId}
use Rattle.ct_values.specs.Graph.{Nodes, IsClosed}
use Rattle.ct_values.specs.NodeIdTest.{same_node, same_nodes}
use Rattle.ct_values.specs.Value.{Value, reference, IsOver}
use Rattle.ct_values.specs.Agreement.{Point, point, node_point, same, AgreeAlways}
use Rattle.ct_values.specs.Sharing.{IsRepresentative}
use Rattle.ct_eval.specs.declared.interp.Row.{Row}
use Rattle.ct_eval.specs.declared.interp.Table.{Table}
use Rattle.ct_eval.specs.declared.index.RowKey.{RowKey}
use Rattle.ct_eval.specs.Index.{AreRepresentatives, AreRepresentativeNodes, HasRows, IsIndex, AreIndexed, row_key, same_row_key}
use Rattle.ct_eval.specs.LookUp.{are_same, row_for}
use Rattle.ct_eval.specs.Valued.{IsLonger}

-- the theorems on agreement and representatives that are needed
pub record Theorems : Type 0 where
  pub every_depth : (p q : Point) → IsClosed p.graph → IsClosed q.graph → IsTrue (same p q) ↔ AgreeAlways p q
  pub one : (g : Nodes) (p q : Point) (m n : NodeId) → IsRepresentative g p m → IsRepresentative g q n → (m ≡ n) ↔ AgreeAlways p q
  pub lasting : (g more : Nodes) (p : Point) (n : NodeId) → IsClosed g → IsRepresentative g p n → IsRepresentative (g ++ more) p n

-- ---- keys

Decides-same_node : (m n : NodeId) → Decides (same_node m n) (m ≡ n)
Decides-same_node m n =
    let d = Decides-eqb m.0 n.0 in
    (λ h i. record { 0 = d.0 h i }, λ e. d.1 (ap (λ k. k.0) e))

-- the derived test of two keys tells whether they are the same
pub Decides-same_row_key : (a b : RowKey) → Decides (same_row_key a b) (a ≡ b)
Decides-same_row_key a b =
    let both = Decides-and (nat_eq a.table b.table) (same_nodes a.args b.args) (Decides-eqb a.table b.table) (pointwise_decides Decides-same_node a.args b.args) in
    (λ h i. record { table = (both.0 h).0 i; args = (both.0 h).1 i }, λ e. both.1 (ap (λ k. k.table) e, ap (λ k. k.args) e))

module _ {S : Type 0} (index more : IndexMap RowKey NodeId S) (key : RowKey) (node : NodeId) (writes : (k : RowKey) → get same_row_key more k ≡ cond (same_row_key key k) (Some node) (get same_row_key index k)) (absent : get same_row_key index key ≡ None) where
  -- what was there stays where a new key is put in
  pub inserted-stay : (k : RowKey) (n : NodeId) → get same_row_key index k ≡ Some n → get same_row_key more k ≡ Some n
  inserted-stay k n had = writes k ∙ at (same_row_key key k) refl
    where
      at : (b : Bool) → same_row_key key k ≡ b → cond b (Some node) (get same_row_key index k) ≡ Some n
      at true e =
          let is : key ≡ k = (Decides-same_row_key key k).0 e in
          absurd (none-some n (sym absent ∙ ap (get same_row_key index) is ∙ had))
      at false e = had

  -- nothing else is new
  pub inserted-only : (k : RowKey) (n : NodeId) → get same_row_key more k ≡ Some n → (get same_row_key index k ≡ Some n) ⊎ ((k ≡ key) × (n ≡ node))
  inserted-only k n has = at (same_row_key key k) refl (sym (writes k) ∙ has)
    where
      at : (b : Bool) → same_row_key key k ≡ b → cond b (Some node) (get same_row_key index k) ≡ Some n → (get same_row_key index k ≡ Some n) ⊎ ((k ≡ key) × (n ≡ node))
      at true e now = inr (sym ((Decides-same_row_key key k).0 e), same_Some n node (sym now))
      at false e now = inl now

-- another key has what it had
pub same_elsewhere : {S : Type 0} (index more : IndexMap RowKey NodeId S) (key : RowKey) (node : NodeId) → ((k : RowKey) (n : NodeId) → get same_row_key index k ≡ Some n → get same_row_key more k ≡ Some n) → ((k : RowKey) (n : NodeId) → get same_row_key more k ≡ Some n → (get same_row_key index k ≡ Some n) ⊎ ((k ≡ key) × (n ≡ node))) → (k : RowKey) → (k ≡ key → ⊥) → get same_row_key more k ≡ get same_row_key index k
same_elsewhere index more key node stay only k other = at (get same_row_key index k) refl (get same_row_key more k) refl
  where
    at : (old : Option NodeId) → get same_row_key index k ≡ old → (new : Option NodeId) → get same_row_key more k ≡ new → get same_row_key more k ≡ get same_row_key index k
    at (Some n) had new now = stay k n had ∙ sym had
    at None had None now = now ∙ sym had
    at None had (Some n) now = elim (only k n now) [
      | inl before ↦ absurd (none-some n (sym had ∙ before))
      | inr new ↦ absurd (other new.0)
    ]

-- ---- rows

-- the first row stays the first where one more follows
row_for-found : (g : Nodes) (rows : List Row) (row : Row) (values : List Value) (n : NodeId) → row_for g rows values ≡ Some n → row_for g (rows ++ row ∷ []) values ≡ Some n
row_for-found g [] row values n e = absurd (none-some n e)
row_for-found g (r ∷ rs) row values n e =
    at (are_same g r.args values) (row_for g rs values) (row_for g (rs ++ row ∷ []) values) (row_for-found g rs row values n) e
  where
    at : (b : Bool) (old new : Option NodeId) → (old ≡ Some n → new ≡ Some n) → cond b (Some r.result) old ≡ Some n → cond b (Some r.result) new ≡ Some n
    at true old new rest h = h
    at false old new rest h = rest h

-- where no row fits, the one after decides
row_for-remaining : (g : Nodes) (rows : List Row) (row : Row) (values : List Value) → row_for g rows values ≡ None → row_for g (rows ++ row ∷ []) values ≡ cond (are_same g row.args values) (Some row.result) None
row_for-remaining g [] row values e = refl
row_for-remaining g (r ∷ rs) row values e =
    at (are_same g r.args values) (row_for g rs values) (row_for g (rs ++ row ∷ []) values) (row_for-remaining g rs row values) e
  where
    at : (b : Bool) (old new : Option NodeId) → (old ≡ None → new ≡ cond (are_same g row.args values) (Some row.result) None) → cond b (Some r.result) old ≡ None → cond b (Some r.result) new ≡ cond (are_same g row.args values) (Some row.result) None
    at true old new rest h = absurd (none-some r.result (sym h))
    at false old new rest h = rest h

module _ (theorems : Theorems) (g longer : Nodes) (closed : IsClosed g) (remaining : IsLonger g longer) where
  -- a node is equal to a value exactly where both have one representative
  Decides-first : (n m a : NodeId) (v : Value) → IsRepresentative g (node_point g n) m → IsRepresentative longer (point g v) a → Decides (same (node_point g n) (point g v)) (m ≡ a)
  Decides-first n m a v first_m first_a =
      let lasting : IsRepresentative longer (node_point g n) m = subst (λ (h : Nodes). IsRepresentative h (node_point g n) m) (sym remaining.1) (theorems.lasting g remaining.0 (node_point g n) m closed first_m) in
      let one = theorems.one longer (node_point g n) (point g v) m a lasting first_a in
      let depth = theorems.every_depth (node_point g n) (point g v) closed closed in
      (λ h. one.1 (depth.0 h), λ e. depth.1 (one.0 e))

  -- a row fits exactly where its representatives are those of the arguments
  Decides-fits : (nodes representatives args : List NodeId) (values : List Value) → AreRepresentativeNodes g representatives nodes → AreRepresentatives g longer args values → Decides (are_same g nodes values) (representatives ≡ args)
  Decides-fits [] [] [] [] row_first first = (λ h. refl, λ e. refl)
  Decides-fits [] [] [] (v ∷ vs) row_first first = absurd first
  Decides-fits [] [] (a ∷ more) [] row_first first = absurd first
  Decides-fits [] [] (a ∷ more) (v ∷ vs) row_first first = (λ h. absurd (true≢false (sym h)), λ e. cc)
  Decides-fits [] (m ∷ ms) args values row_first first = absurd row_first
  Decides-fits (n ∷ ns) [] args values row_first first = absurd row_first
  Decides-fits (n ∷ ns) (m ∷ ms) [] [] row_first first = (λ h. absurd (true≢false (sym h)), λ e. cc)
  Decides-fits (n ∷ ns) (m ∷ ms) [] (v ∷ vs) row_first first = absurd first
  Decides-fits (n ∷ ns) (m ∷ ms) (a ∷ more) [] row_first first = absurd first
  Decides-fits (n ∷ ns) (m ∷ ms) (a ∷ more) (v ∷ vs) row_first first =
      let both = Decides-and (same (node_point g n) (point g v)) (are_same g ns vs) (Decides-first n m a v row_first.0 first.0) (Decides-fits ns ms more vs row_first.1 first.1) in
      (λ h. ap₂ (λ (x : NodeId) (xs : List NodeId). x ∷ xs) (both.0 h).0 (both.0 h).1, λ e. both.1 (cc, cc))

-- a map with the rows of a table has one row more, once that has its key
pub HasRows-push : {S : Type 0} (theorems : Theorems) (g : Nodes) (closed : IsClosed g) (t : ℕ) (rows : List Row) (row : Row) (representatives : List NodeId) (index more : IndexMap RowKey NodeId S) → AreRepresentativeNodes g representatives row.args → ((k : RowKey) (n : NodeId) → get same_row_key index k ≡ Some n → get same_row_key more k ≡ Some n) → (get same_row_key index (row_key t representatives) ≡ None → get same_row_key more (row_key t representatives) ≡ Some row.result) → ((k : RowKey) (n : NodeId) → get same_row_key more k ≡ Some n → (get same_row_key index k ≡ Some n) ⊎ ((k ≡ row_key t representatives) × (n ≡ row.result))) → HasRows g t rows index → HasRows g t (rows ++ row ∷ []) more
HasRows-push {S} theorems g closed t rows row representatives index more row_first stay added only old longer args values remaining first = at (row_for g rows values) refl
  where
    before : get same_row_key index (row_key t args) ≡ row_for g rows values
    before = old longer args values remaining first

    fits : Decides (are_same g row.args values) (representatives ≡ args)
    fits = Decides-fits theorems g longer closed remaining row.args representatives args values row_first first

    by_test : (b : Bool) → are_same g row.args values ≡ b → row_for g rows values ≡ None → get same_row_key more (row_key t args) ≡ cond b (Some row.result) None
    by_test true e none =
        let is : row_key t representatives ≡ row_key t args = ap (row_key t) (fits.0 e) in
        ap (get same_row_key more) (sym is) ∙ added (ap (get same_row_key index) is ∙ before ∙ none)
    by_test false e none =
        same_elsewhere index more (row_key t representatives) row.result stay only (row_key t args) (λ same_keys. true≢false (sym (fits.1 (ap (λ k. k.args) (sym same_keys))) ∙ e))
        ∙ before ∙ none

    at : (found : Option NodeId) → row_for g rows values ≡ found → get same_row_key more (row_key t args) ≡ row_for g (rows ++ row ∷ []) values
    at (Some n) e = stay (row_key t args) n (before ∙ e) ∙ sym (row_for-found g rows row values n e)
    at None e = by_test (are_same g row.args values) refl e ∙ sym (row_for-remaining g rows row values e)

-- the rows of a table stay where its keys have what they had
pub HasRows-same : {S : Type 0} (g : Nodes) (t : ℕ) (rows : List Row) (index more : IndexMap RowKey NodeId S) → ((args : List NodeId) → get same_row_key more (row_key t args) ≡ get same_row_key index (row_key t args)) → HasRows g t rows index → HasRows g t rows more
HasRows-same g t rows index more elsewhere old longer args values remaining first = elsewhere args ∙ old longer args values remaining first

-- representatives of nodes of a graph are theirs in a longer one too
module _ (theorems : Theorems) (turned : (p q : Point) → AgreeAlways p q → AgreeAlways q p) (grown : (g more : Nodes) (v : Value) → IsClosed g → IsOver g v → AgreeAlways (point (g ++ more) v) (point g v)) (alike : (g : Nodes) (p q : Point) (n : NodeId) → AgreeAlways p q → IsRepresentative g p n → IsRepresentative g q n) (g longer : Nodes) (closed : IsClosed g) (remaining : IsLonger g longer) where
  IsRepresentative-longer : (m n : NodeId) → n.0 < length g → IsRepresentative g (node_point g n) m → IsRepresentative longer (node_point longer n) m
  IsRepresentative-longer m n within first =
      let h : Nodes = g ++ remaining.0 in
      subst (λ (k : Nodes). IsRepresentative k (node_point k n) m) (sym remaining.1)
      (alike h (node_point g n) (node_point h n) m (turned (node_point h n) (node_point g n) (grown g remaining.0 (reference n) closed within)) (theorems.lasting g remaining.0 (node_point g n) m closed first))

  pub AreRepresentativeNodes-longer : (representatives nodes : List NodeId) → AllByRecursion (λ n. n.0 < length g) nodes → AreRepresentativeNodes g representatives nodes → AreRepresentativeNodes longer representatives nodes
  AreRepresentativeNodes-longer [] [] within first = first
  AreRepresentativeNodes-longer [] (n ∷ ns) within first = first
  AreRepresentativeNodes-longer (m ∷ ms) [] within first = first
  AreRepresentativeNodes-longer (m ∷ ms) (n ∷ ns) within first =
      (IsRepresentative-longer m n within.0 first.0, AreRepresentativeNodes-longer ms ns within.1 first.1)

-- a map that keeps the rows has them
pub AreIndexed-index : {S : Type 0} (g : Nodes) (tables : List Table) (index : IndexMap RowKey NodeId S) → IsClosed g → AreIndexed g tables index → IsIndex g tables index
AreIndexed-index g tables index closed kept t table at = kept.rows t table at g closed ([], sym (append-nil g))
