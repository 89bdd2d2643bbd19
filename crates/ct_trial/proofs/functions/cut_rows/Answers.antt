use Rattle.std.proofs.Common.{◌≡◌, cond, nat_lt, filter, None, rules, sym, ap, ◌∙◌}
use Rattle.std.proofs.lemmas.Map.Entries.{lookup-filter-keys}
use Rattle.std.specs.Map.{lookup}
use Rattle.indexmap.specs.IndexMap.{get}
use Rattle.indexmap.proofs.CallerLemmas.{filter-RetainsPairs}
use Rattle.ct_values.specs.declared.node.NodeId.{NodeId}
use Rattle.ct_eval.specs.declared.index.RowKey.{RowKey}
use Rattle.ct_eval.specs.Index.{same_row_key}
use Rattle.ct_eval.proofs.IndexLemmas.{Decides-same_row_key}
use Rattle.ct_trial.proofs.RowLemmas.{indexed_cut}
use Rattle.ct_trial.proofs.functions.cut_rows.Goals as goal

pub returns : goal.returns
returns c =
    let count = c.args.count in
    let old = c.args.index.now in
    let more = c.retain.new.self in
    let kept : more.entries ≡ filter (λ (e : RowKey × NodeId). nat_lt e.0.table count) old.entries = filter-RetainsPairs _ _ _ (λ k v b w g call. search rules) _ _ c.retain.ensures.filtered in
    let left : (k : RowKey) → get same_row_key more k ≡ cond (nat_lt k.table count) (get same_row_key old k) None = λ k.
    ap (lookup (same_row_key k)) kept
    ∙ lookup-filter-keys (same_row_key k) (λ (q : RowKey). nat_lt q.table count) (nat_lt k.table count) (λ q e. ap (λ (r : RowKey). nat_lt r.table count) (sym ((Decides-same_row_key k q).0 e))) old.entries in
    record { cut = λ g tables had. indexed_cut g tables count old more left had }
