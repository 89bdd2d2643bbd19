-- What is written of a name, of a string and of the items of a list.
use Rattle.std.proofs.Common.{◌≡◌, ℕ, ◌+◌, ◌<◌, false, List, [], ◌∷◌, ◌++◌, length, get_or, take, refl, sym, ap, ◌∙◌, append_assoc, arith}
use Rattle.std.specs.List.{list_all}
use Rattle.std.specs.Char.{is_ascii_digit}
use Rattle.std.proofs.lemmas.List.{append-nil, take_more}
use Rattle.ct_sexpr.specs.Atom.{is_word_byte}
use Rattle.ct_sexpr.specs.Written.{forms_symbol, doubled, written, written_after}
use Rattle.ct_sexpr.specs.View.{expression_of, expressions_of}
use Rattle.ct_sexpr.specs.declared.sexpr.Sexpr.{Sexpr}
use Rattle.ct_sexpr.proofs.Lexemes.{doubled-append}

-- where the first byte is no digit, a name is a symbol exactly if all its bytes are bytes of words
pub forms_symbol-some : (name : List ℕ) → 0 < length name → is_ascii_digit (get_or name 0 0) ≡ false → forms_symbol name ≡ list_all is_word_byte name
forms_symbol-some [] some h = absurd (omega arith)
forms_symbol-some (b ∷ bs) some h = rw h refl

-- one more item after those that are written
written_after-push : (items : List Sexpr) (item : Sexpr) →
    written_after (expressions_of (items ++ item ∷ [])) ≡ written_after (expressions_of items) ++ 32 ∷ written (expression_of item)
written_after-push [] item = ap (λ w. 32 ∷ w) (append-nil (written (expression_of item)))
written_after-push (first ∷ others) item =
    ap (λ w. 32 ∷ (written (expression_of first) ++ w)) (written_after-push others item)
    ∙ ap (λ w. 32 ∷ w) (sym (append_assoc (written (expression_of first)) (written_after (expressions_of others)) (32 ∷ written (expression_of item))))

-- one more byte of a string after those that are written
pub written_text-more : (content : List ℕ) (i : ℕ) (old now new : List ℕ) → i < length content
    → now ≡ old ++ 34 ∷ doubled (take i content) → new ≡ now ++ doubled (get_or content i 0 ∷ [])
    → new ≡ old ++ 34 ∷ doubled (take (i + 1) content)
written_text-more content i old now new within p q =
    let more = doubled (get_or content i 0 ∷ []) in
    q
    ∙ ap (λ w. w ++ more) p
    ∙ append_assoc old (34 ∷ doubled (take i content)) more
    ∙ ap (λ w. old ++ 34 ∷ w) (sym (doubled-append (take i content) (get_or content i 0 ∷ [])) ∙ ap doubled (sym (take_more content i 0 within)))

-- one more item after those that are written
pub written_items-more : (items : List Sexpr) (i : ℕ) (item : Sexpr) (old now space new : List ℕ) → i < length items → item ≡ get_or items i item
    → now ≡ old ++ written_after (expressions_of (take i items)) → space ≡ now ++ 32 ∷ [] → new ≡ space ++ written (expression_of item)
    → new ≡ old ++ written_after (expressions_of (take (i + 1) items))
written_items-more items i item old now space new within is p q r =
    let before = written_after (expressions_of (take i items)) in
    let word = written (expression_of item) in
    let items_are : take (i + 1) items ≡ take i items ++ item ∷ [] = take_more items i item within ∙ ap (λ e. take i items ++ e ∷ []) (sym is) in
    r
    ∙ ap (λ w. w ++ word) (q ∙ ap (λ w. w ++ 32 ∷ []) p)
    ∙ append_assoc (old ++ before) (32 ∷ []) word
    ∙ append_assoc old before (32 ∷ word)
    ∙ ap (λ w. old ++ w) (sym (written_after-push (take i items) item) ∙ ap (λ es. written_after (expressions_of es)) (sym items_are))
