-- What adding sorts keeps of a list of sorts.
use Rattle.std.proofs.Common.{◌≡◌, zero, suc, ◌<◌, ◌⊎◌, List, [], ◌∷◌, ◌++◌, length, Some, slice_get, sym, ap, subst, ◌∙◌, inl, inr, arith}
use Rattle.std.proofs.lemmas.Option.{none-some, same_Some, slice_get_within}
use Rattle.ct_lemmas.proofs.Lists.{slice_get-append_left, slice_get-push_cases, slice_get-last}
use Rattle.ct_generics.specs.Expression.{Expression, args_of}
use Rattle.ct_generics.specs.Declarations.{Head}
use Rattle.ct_generics.specs.Reach.{AreDifferent}
use Rattle.ct_generics.specs.Add.{Adds, none, there, given, made, IsAmong, field_sorts}
use Rattle.ct_generics.specs.Additions.{AreAmong, ComeAfterArguments, HaveFields, IsAddition}
use Rattle.ct_generics.proofs.AddLemmas.{Begins, Begins-push, Adds-begins, cases}

IsAmong-begins : (before after : List Expression) → Begins before after → (e : Expression) → IsAmong before e → IsAmong after e
IsAmong-begins before after begins e is = subst (λ (s : List Expression). IsAmong s e) (sym begins.1) (is.0, slice_get-append_left before begins.0 is.0 e is.1)

AreAmong-begins : (before after : List Expression) → Begins before after → (es : List Expression) → AreAmong before es → AreAmong after es
AreAmong-begins before after begins es are k e at = IsAmong-begins before after begins e (are k e at)

AreAmong-more : (sorts : List Expression) (e : Expression) (rest : List Expression) → IsAmong sorts e → AreAmong sorts rest → AreAmong sorts (e ∷ rest)
AreAmong-more sorts e rest is are zero f at = subst (IsAmong sorts) (same_Some e f at) is
AreAmong-more sorts e rest is are (suc k) f at = are k f at

-- with one more sort, which is not there
AreDifferent-push : (sorts : List Expression) (e : Expression) → (IsAmong sorts e → ⊥) → AreDifferent sorts → AreDifferent (sorts ++ e ∷ [])
AreDifferent-push sorts e absent different i j f at_i at_j =
    elim (slice_get-push_cases sorts e f i at_i) [
      | inl i_before ↦ elim (slice_get-push_cases sorts e f j at_j) [
        | inl j_before ↦ different i j f i_before j_before
        | inr j_last ↦ absurd (absent (i, i_before ∙ ap Some (sym j_last.1)))
      ]
      | inr i_last ↦ elim (slice_get-push_cases sorts e f j at_j) [
        | inl j_before ↦ absurd (absent (j, j_before ∙ ap Some (sym i_last.1)))
        | inr j_last ↦ i_last.0 ∙ sym j_last.0
      ]
    ]

ComeAfterArguments-push : (sorts : List Expression) (e : Expression) → AreAmong sorts (args_of e) → ComeAfterArguments sorts → ComeAfterArguments (sorts ++ e ∷ [])
ComeAfterArguments-push sorts e are after i k f a at at_arg =
    elim (slice_get-push_cases sorts e f i at) [
      | inl before ↦
          let found = after i k f a before at_arg in
          (found.0, found.1, slice_get-append_left sorts (e ∷ []) found.0 a found.2)
      | inr last ↦
          let found = are k a (subst (λ (x : Expression). slice_get (args_of x) k ≡ Some a) (sym last.1) at_arg) in
          let within : found.0 < length sorts = slice_get_within sorts found.0 a found.1 in
          (found.0, omega (arith, within, last.0), slice_get-append_left sorts (e ∷ []) found.0 a found.1)
    ]

module _ (heads : List Head) where
  -- what was to be added is there
  Adds-all : (es before after : List Expression) → Adds heads es before after → AreAmong after es
  Adds-all _ _ _ (none sorts) k f at = absurd (none-some f at)
  Adds-all _ _ _ (there e rest s t is later) k f at = AreAmong-more t e rest (IsAmong-begins s t (Adds-begins heads rest s t later) e is) (Adds-all rest s t later) k f at
  Adds-all _ _ _ (given e rest s m t fresh args is later) k f at = AreAmong-more t e rest (IsAmong-begins m t (Adds-begins heads rest m t later) e is) (Adds-all rest m t later) k f at
  Adds-all _ _ _ (made e rest s m n t fresh args absent fields later) k f at =
      let first : Begins (m ++ e ∷ []) n = Adds-begins heads (field_sorts heads e) (m ++ e ∷ []) n fields in
      AreAmong-more t e rest (IsAmong-begins n t (Adds-begins heads rest n t later) e (IsAmong-begins (m ++ e ∷ []) n first e (length m, slice_get-last m e))) (Adds-all rest n t later) k f at

  Adds-different : (es before after : List Expression) → Adds heads es before after → AreDifferent before → AreDifferent after
  Adds-different _ _ _ (none sorts) different = different
  Adds-different _ _ _ (there e rest s t is later) different = Adds-different rest s t later different
  Adds-different _ _ _ (given e rest s m t fresh args is later) different = Adds-different rest m t later (Adds-different (args_of e) s m args different)
  Adds-different _ _ _ (made e rest s m n t fresh args absent fields later) different =
      Adds-different rest n t later (Adds-different (field_sorts heads e) (m ++ e ∷ []) n fields (AreDifferent-push m e absent (Adds-different (args_of e) s m args different)))

  Adds-arguments : (es before after : List Expression) → Adds heads es before after → ComeAfterArguments before → ComeAfterArguments after
  Adds-arguments _ _ _ (none sorts) come = come
  Adds-arguments _ _ _ (there e rest s t is later) come = Adds-arguments rest s t later come
  Adds-arguments _ _ _ (given e rest s m t fresh args is later) come = Adds-arguments rest m t later (Adds-arguments (args_of e) s m args come)
  Adds-arguments _ _ _ (made e rest s m n t fresh args absent fields later) come =
      Adds-arguments rest n t later (Adds-arguments (field_sorts heads e) (m ++ e ∷ []) n fields (ComeAfterArguments-push m e (Adds-all (args_of e) s m args) (Adds-arguments (args_of e) s m args come)))

  -- the sorts of the fields of each sort that is new are sorts
  abbrev HaveNewFields : List Expression → List Expression → Type 0
  HaveNewFields before after = (e : Expression) → IsAmong after e → IsAmong before e ⊎ AreAmong after (field_sorts heads e)

  HaveNewFields-trans : (a b c : List Expression) → Begins b c → HaveNewFields a b → HaveNewFields b c → HaveNewFields a c
  HaveNewFields-trans a b c begins first second e is =
      elim (second e is) [
        | inl in_b ↦ elim (first e in_b) [ inl in_a ↦ inl in_a | inr fields ↦ inr (AreAmong-begins b c begins (field_sorts heads e) fields) ]
        | inr fields ↦ inr fields
      ]

  HaveNewFields-push : (sorts after : List Expression) (e : Expression) → AreAmong after (field_sorts heads e) → HaveNewFields (sorts ++ e ∷ []) after → HaveNewFields sorts after
  HaveNewFields-push sorts after e are have f is =
      elim (have f is) [
        | inl among ↦ elim (slice_get-push_cases sorts e f among.0 among.1) [ inl before ↦ inl (among.0, before) | inr last ↦ inr (subst (λ (x : Expression). AreAmong after (field_sorts heads x)) last.1 are) ]
        | inr fields ↦ inr fields
      ]

  Adds-fields : (es before after : List Expression) → Adds heads es before after → HaveNewFields before after
  Adds-fields _ _ _ (none sorts) x among = inl among
  Adds-fields _ _ _ (there e rest s t is later) x among = Adds-fields rest s t later x among
  Adds-fields _ _ _ (given e rest s m t fresh args is later) x among = HaveNewFields-trans s m t (Adds-begins heads rest m t later) (Adds-fields (args_of e) s m args) (Adds-fields rest m t later) x among
  Adds-fields _ _ _ (made e rest s m n t fresh args absent fields later) x among =
      let first : Begins m n = Begins-push m n e (Adds-begins heads (field_sorts heads e) (m ++ e ∷ []) n fields) in
      let new : HaveNewFields m n = HaveNewFields-push m n e (Adds-all (field_sorts heads e) (m ++ e ∷ []) n fields) (Adds-fields (field_sorts heads e) (m ++ e ∷ []) n fields) in
      HaveNewFields-trans s n t (Adds-begins heads rest n t later) (HaveNewFields-trans s m n first (Adds-fields (args_of e) s m args) new) (Adds-fields rest n t later) x among

  HaveFields-more : (before after : List Expression) → Begins before after → HaveNewFields before after → HaveFields heads before → HaveFields heads after
  HaveFields-more before after begins new have e is =
      elim (new e is) [ inl among ↦ AreAmong-begins before after begins (field_sorts heads e) (have e among) | inr fields ↦ fields ]

  -- what is added is determined
  pub Adds-same : (es before after other : List Expression) → Adds heads es before after → Adds heads es before other → after ≡ other
  Adds-same _ _ _ other (none sorts) second = sym (cases heads [] sorts other second)
  Adds-same _ _ _ other (there e rest s t is later) second =
      let parts = cases heads (e ∷ rest) s other second in
      elim parts.1 [
        | inl here ↦ Adds-same rest s t other later (subst (λ (x : List Expression). Adds heads rest x other) here.1 parts.2)
        | inr new ↦ absurd (new.0 is)
      ]
  Adds-same _ _ _ other (given e rest s m t fresh args is later) second =
      let parts = cases heads (e ∷ rest) s other second in
      elim parts.1 [
        | inl here ↦ absurd (fresh here.0)
        | inr new ↦
            let same = Adds-same (args_of e) s m new.1.0 args new.1.1 in
            elim new.1.2 [
              | inl there_now ↦ Adds-same rest m t other later (subst (λ (x : List Expression). Adds heads rest x other) (there_now.1 ∙ sym same) parts.2)
              | inr absent ↦ absurd (absent.0 (subst (λ (x : List Expression). IsAmong x e) same is))
            ]
      ]
  Adds-same _ _ _ other (made e rest s m n t fresh args absent fields later) second =
      let parts = cases heads (e ∷ rest) s other second in
      elim parts.1 [
        | inl here ↦ absurd (fresh here.0)
        | inr new ↦
            let same = Adds-same (args_of e) s m new.1.0 args new.1.1 in
            elim new.1.2 [
              | inl there_now ↦ absurd (absent (subst (λ (x : List Expression). IsAmong x e) (sym same) there_now.0))
              | inr made_now ↦
                  let fields_same = Adds-same (field_sorts heads e) (m ++ e ∷ []) n parts.0 fields (subst (λ (x : List Expression). Adds heads (field_sorts heads e) (x ++ e ∷ []) parts.0) (sym same) made_now.1) in
                  Adds-same rest n t other later (subst (λ (x : List Expression). Adds heads rest x other) (sym fields_same) parts.2)
            ]
      ]

  pub is_addition : (es before after : List Expression) → Adds heads es before after → IsAddition heads es before after
  is_addition es before after adds =
      let begins : Begins before after = Adds-begins heads es before after adds in
      record {
        more = begins.0;
        begins = begins.1;
        all = Adds-all es before after adds;
        different = Adds-different es before after adds;
        arguments = Adds-arguments es before after adds;
        fields = HaveFields-more before after begins (Adds-fields es before after adds);
      }
