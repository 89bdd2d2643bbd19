use Rattle.std.proofs.Common.{◌≡◌, ◌⊎◌, List, [], ◌∷◌, ◌++◌, ap, ◌∙◌, inl, inr}
use Rattle.ct_sorts.specs.declared.ids.CtorId.{CtorId}
use Rattle.ct_sorts.specs.declared.ids.FunId.{FunId}
use Rattle.ct_sorts.specs.declared.ids.SelId.{SelId}
use Rattle.ct_sorts.specs.Declarations.{Declarations}
use Rattle.ct_terms.specs.CoreTree.{CoreTree, term_at}
use Rattle.ct_operators.specs.declared.operator.Operator.{Operator}
use Rattle.ct_operators.specs.declared.operator.Operator.TheVariants.{Construct, Select, Inspect, Call, Negation, Conjunction, Disjunction}
use Rattle.ct_operators.specs.Following.{leading, between}
use Rattle.ct_operators.proofs.FollowLemmas.{last_of_push, follows_itself}
use Rattle.ct_operators.proofs.following.follow.Goals as goal

-- for the other operators the last term leads
others_lead : (o : Operator) (us : List CoreTree) (v : CoreTree) → ((x : CtorId) × (o ≡ Construct x)) ⊎ (((x : SelId) × (o ≡ Select x)) ⊎ (((x : CtorId) × (o ≡ Inspect x)) ⊎ (((x : FunId) × (o ≡ Call x)) ⊎ ((o ≡ Negation) ⊎ ((o ≡ Conjunction) ⊎ (o ≡ Disjunction)))))) → leading o (us ++ v ∷ []) ≡ v
others_lead o us v (inl h) = ap (λ (x : Operator). leading x (us ++ v ∷ [])) h.1 ∙ last_of_push us v
others_lead o us v (inr (inl h)) = ap (λ (x : Operator). leading x (us ++ v ∷ [])) h.1 ∙ last_of_push us v
others_lead o us v (inr (inr (inl h))) = ap (λ (x : Operator). leading x (us ++ v ∷ [])) h.1 ∙ last_of_push us v
others_lead o us v (inr (inr (inr (inl h)))) = ap (λ (x : Operator). leading x (us ++ v ∷ [])) h.1 ∙ last_of_push us v
others_lead o us v (inr (inr (inr (inr (inl h))))) = ap (λ (x : Operator). leading x (us ++ v ∷ [])) h ∙ last_of_push us v
others_lead o us v (inr (inr (inr (inr (inr (inl h)))))) = ap (λ (x : Operator). leading x (us ++ v ∷ [])) h ∙ last_of_push us v
others_lead o us v (inr (inr (inr (inr (inr (inr h)))))) = ap (λ (x : Operator). leading x (us ++ v ∷ [])) h ∙ last_of_push us v

-- and have nothing between a term and the later ones
others_none : (d : Declarations) (o : Operator) (us : List CoreTree) (v : CoreTree) (later : List CoreTree) → ((x : CtorId) × (o ≡ Construct x)) ⊎ (((x : SelId) × (o ≡ Select x)) ⊎ (((x : CtorId) × (o ≡ Inspect x)) ⊎ (((x : FunId) × (o ≡ Call x)) ⊎ ((o ≡ Negation) ⊎ ((o ≡ Conjunction) ⊎ (o ≡ Disjunction)))))) → between d o us v later ≡ []
others_none d o us v later (inl h) = ap (λ (x : Operator). between d x us v later) h.1
others_none d o us v later (inr (inl h)) = ap (λ (x : Operator). between d x us v later) h.1
others_none d o us v later (inr (inr (inl h))) = ap (λ (x : Operator). between d x us v later) h.1
others_none d o us v later (inr (inr (inr (inl h)))) = ap (λ (x : Operator). between d x us v later) h.1
others_none d o us v later (inr (inr (inr (inr (inl h))))) = ap (λ (x : Operator). between d x us v later) h
others_none d o us v later (inr (inr (inr (inr (inr (inl h)))))) = ap (λ (x : Operator). between d x us v later) h
others_none d o us v later (inr (inr (inr (inr (inr (inr h)))))) = ap (λ (x : Operator). between d x us v later) h

pub returns-in-Construct : goal.returns-in-Construct
returns-in-Construct c = record {
  outcome = follows_itself c.args.sig.now c.args.table.now c.args.operator c.args.lead c.args.term c.args.ends (λ us e. others_lead c.args.operator us (term_at c.args.table.now c.args.term) c.in-Construct.is) (λ us later e last. others_none c.args.sig.now c.args.operator us (term_at c.args.table.now c.args.term) later c.in-Construct.is);
}
