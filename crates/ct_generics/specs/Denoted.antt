-- Which expressions, sorts and generics stored values stand for, as functions of these.
use Rattle.std.specs.Prelude.{ℕ, zero, suc, List, length, map, Option, Some, None, slice_get}
use Rattle.ct_generics.specs.declared.nodes.ExprId.{ExprId}
use Rattle.ct_generics.specs.declared.nodes.Node.{Node}
use Rattle.ct_generics.specs.declared.nodes.Node.TheVariants.{Param, Head as HeadNode, Apply}
use Rattle.ct_generics.specs.declared.heads.StoredHead.{StoredHead}
use Rattle.ct_generics.specs.declared.heads.StoredSynonym.{StoredSynonym}
use Rattle.ct_generics.specs.declared.generics.Generics.{Generics}
use Rattle.ct_generics.specs.declared.sort_table.SortTable.{SortTable}
use Rattle.ct_generics.specs.Expression.{Expression, parameter, named, applied}
use Rattle.ct_generics.specs.Declarations.{Declared, Head, Synonym}

-- what a node stands for, over what the nodes that it is made of stand for
abbrev pub node_over : (ℕ → Expression) → Option Node → Expression
node_over below None = parameter 0
node_over below (Some (Param i)) = parameter i
node_over below (Some (HeadNode h)) = named h.0
node_over below (Some (Apply m k)) = applied (below m.0) (below k.0)

-- what the node with this number stands for, where it is at most so deep
abbrev pub denoted : List Node → ℕ → ℕ → Expression
denoted nodes zero n = parameter 0
denoted nodes (suc depth) n = node_over (denoted nodes depth) (slice_get nodes n)

-- what this number of an expression stands for
abbrev pub expression_at : List Node → ExprId → Expression
expression_at nodes id = denoted nodes (length nodes) id.0

abbrev pub head_stored : StoredHead → Head
head_stored stored = record { name = stored.name; kind = stored.kind; params = stored.params; ctors = map (map (expression_at stored.template)) stored.ctors }

abbrev pub synonym_stored : StoredSynonym → Synonym
synonym_stored stored = record { name = stored.name; params = stored.params; body = expression_at stored.template stored.body }

-- what is declared
abbrev pub declared_of : Generics → Declared
declared_of g = record { heads = map head_stored g.heads; synonyms = map synonym_stored g.synonyms }

-- the sorts of the table
abbrev pub sorts_of : SortTable → List Expression
sorts_of table = map (expression_at table.expressions) table.sorts
