-- Agreement: it is symmetric at each depth, it falls with the depth, and at every depth it is that of labels and children.
use Rattle.std.proofs.Common.{◌≡◌, ℕ, zero, suc, ◌<◌, Bool, IsTrue, List, [], ◌∷◌, nat_eq, All, refl, sym, ◌∙◌, true≢false, arith}
use Rattle.std.specs.List.{AllZip}
use Rattle.std.specs.Cmp.{IsEquivalence}
use Rattle.std.specs.Cmp.Lexicographic.{pointwise}
use Rattle.std.proofs.lemmas.Cmp.{and_equiv, on_equiv, lists_equiv, nat_eq_equiv}
use Rattle.std.proofs.lemmas.Bool.{eqb-true, eq-eqb}
use Rattle.ct_lemmas.proofs.Booleans.{both_parts, both_true}
use Rattle.ct_partition.specs.Points.{Points}
use Rattle.ct_partition.specs.Bisimilarity.{agree, AgreeAlways, IsBisimulation}

-- the children of each point are points
abbrev pub IsClosed : Points → Type 0
IsClosed p = (i : ℕ) → i < p.count → All (λ child. child < p.count) (p.children i)

-- agreement to one depth is an equivalence
agree_equiv : (p : Points) (depth : ℕ) → IsEquivalence (agree p depth)
unfolding agree
agree_equiv p zero = record { refl = λ i. refl; symm = λ i j. refl; congr = λ i j k e. refl }
agree_equiv p (suc depth) = and_equiv (on_equiv p.label nat_eq_equiv) (on_equiv p.children (lists_equiv (agree_equiv p depth)))

pub AgreeAlways-sym : (p : Points) (i j : ℕ) → AgreeAlways p i j → AgreeAlways p j i
AgreeAlways-sym p i j h depth = (agree_equiv p depth).symm j i ∙ h depth

pub agree-zero : (p : Points) (i j : ℕ) → IsTrue (agree p 0 i j)
unfolding agree
agree-zero p i j = refl

-- agreement to a greater depth is that of labels and children
pub agree-suc : (p : Points) (depth i j : ℕ) → p.label i ≡ p.label j → IsTrue (pointwise (agree p depth) (p.children i) (p.children j)) → IsTrue (agree p (suc depth) i j)
unfolding agree
agree-suc p depth i j labels each = both_true (nat_eq (p.label i) (p.label j)) (pointwise (agree p depth) (p.children i) (p.children j)) (eq-eqb (p.label i) (p.label j) labels) each

agree-parts : (p : Points) (depth i j : ℕ) → IsTrue (agree p (suc depth) i j) → (p.label i ≡ p.label j) × IsTrue (pointwise (agree p depth) (p.children i) (p.children j))
unfolding agree
agree-parts p depth i j h =
    let parts = both_parts (nat_eq (p.label i) (p.label j)) (pointwise (agree p depth) (p.children i) (p.children j)) h in
    (eqb-true (p.label i) (p.label j) parts.0, parts.1)

-- lists that agree one for one at every depth
always : (p : Points) (ms ns : List ℕ) → ((depth : ℕ) → IsTrue (pointwise (agree p depth) ms ns)) → AllZip (AgreeAlways p) ms ns
always p [] [] h = tt
always p [] (n ∷ ns) h = absurd (true≢false (sym (h 0)))
always p (m ∷ ms) [] h = absurd (true≢false (sym (h 0)))
always p (m ∷ ms) (n ∷ ns) h =
    let parts = λ (depth : ℕ). both_parts (agree p depth m n) (pointwise (agree p depth) ms ns) (h depth) in
    (λ depth. (parts depth).0, always p ms ns (λ depth. (parts depth).1))

-- points that agree at every depth have one label, and children that do
pub AgreeAlways-parts : (p : Points) (i j : ℕ) → AgreeAlways p i j → (p.label i ≡ p.label j) × AllZip (AgreeAlways p) (p.children i) (p.children j)
AgreeAlways-parts p i j h = (
  (agree-parts p 0 i j (h 1)).0,
  always p (p.children i) (p.children j) (λ depth. (agree-parts p depth i j (h (suc depth))).1),
)

-- a test that passes for points where another does passes one for one where the other does
pub pointwise-weaken : (count : ℕ) (E F : ℕ → ℕ → Bool) → ((i j : ℕ) → i < count → j < count → IsTrue (E i j) → IsTrue (F i j)) → (ms ns : List ℕ) → All (λ m. m < count) ms → All (λ n. n < count) ns → IsTrue (pointwise E ms ns) → IsTrue (pointwise F ms ns)
pointwise-weaken count E F weaker [] [] ms_in ns_in h = h
pointwise-weaken count E F weaker [] (n ∷ ns) ms_in ns_in h = h
pointwise-weaken count E F weaker (m ∷ ms) [] ms_in ns_in h = h
pointwise-weaken count E F weaker (m ∷ ms) (n ∷ ns) ms_in ns_in h =
    let parts = both_parts (E m n) (pointwise E ms ns) h in
    both_true
    (F m n)
    (pointwise F ms ns)
    (weaker m n (ms_in 0 m (omega arith)) (ns_in 0 n (omega arith)) parts.0)
    (pointwise-weaken count E F weaker ms ns (λ k d within. ms_in (suc k) d (omega arith)) (λ k d within. ns_in (suc k) d (omega arith)) parts.1)

-- points that a bisimulation relates agree at every depth
pub AgreeAlways-related : (p : Points) (relates : ℕ → ℕ → Bool) → IsClosed p → IsBisimulation p relates → (depth i j : ℕ) → i < p.count → j < p.count → IsTrue (relates i j) → IsTrue (agree p depth i j)
AgreeAlways-related p relates closed bisimulation zero i j i_in j_in h = agree-zero p i j
AgreeAlways-related p relates closed bisimulation (suc depth) i j i_in j_in h =
    agree-suc p depth i j
    (bisimulation.labels i j i_in j_in h)
    (pointwise-weaken p.count relates (agree p depth) (AgreeAlways-related p relates closed bisimulation depth) (p.children i) (p.children j) (closed i i_in) (closed j j_in) (bisimulation.children i j i_in j_in h))
