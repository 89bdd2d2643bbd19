-- The field sorts of each constructor.
use Rattle.std.proofs.Common.{List, [], ◌∷◌, ◌++◌, map}
use Rattle.std.specs.List.{AllZip, flat_map}
use Rattle.ct_generics.specs.declared.nodes.ExprId.{ExprId}
use Rattle.ct_generics.specs.declared.nodes.Node.{Node}
use Rattle.ct_generics.specs.Expression.{Expression, substitute}
use Rattle.ct_generics.specs.Nodes.{StandFor, AreImages}
use Rattle.ct_generics.specs.Images.{IsImage}

-- the image of a field is its sort with the arguments in place of the parameters
row-stands : (template nodes : List Node) (images : List ExprId) (args : List Expression) → AreImages template nodes images args → (ids fields : List ExprId) (es : List Expression) → AllZip (IsImage images) ids fields → StandFor template fields es → StandFor nodes ids (map (substitute args) es)
row-stands template nodes images args known [] [] [] are stand = tt
row-stands template nodes images args known [] [] (e ∷ es) are stand = absurd stand
row-stands template nodes images args known [] (f ∷ fields) es are stand = absurd are
row-stands template nodes images args known (i ∷ ids) [] es are stand = absurd are
row-stands template nodes images args known (i ∷ ids) (f ∷ fields) [] are stand = absurd stand
row-stands template nodes images args known (i ∷ ids) (f ∷ fields) (e ∷ es) are stand = (known f.0 i e are.0 stand.0, row-stands template nodes images args known ids fields es are.1 stand.1)

-- the same of each constructor
pub rows-stand : (template nodes : List Node) (images : List ExprId) (args : List Expression) → AreImages template nodes images args → (rows ctors : List (List ExprId)) (es : List (List Expression)) → AllZip (AllZip (IsImage images)) rows ctors → AllZip (StandFor template) ctors es → AllZip (StandFor nodes) rows (map (map (substitute args)) es)
rows-stand template nodes images args known [] [] [] are stand = tt
rows-stand template nodes images args known [] [] (e ∷ es) are stand = absurd stand
rows-stand template nodes images args known [] (f ∷ fields) es are stand = absurd are
rows-stand template nodes images args known (i ∷ rows) [] es are stand = absurd are
rows-stand template nodes images args known (i ∷ rows) (f ∷ fields) [] are stand = absurd stand
rows-stand template nodes images args known (i ∷ rows) (f ∷ fields) (e ∷ es) are stand = (row-stands template nodes images args known i f e are.0 stand.0, rows-stand template nodes images args known rows fields es are.1 stand.1)

StandFor-append : (nodes : List Node) (ids more : List ExprId) (es others : List Expression) → StandFor nodes ids es → StandFor nodes more others → StandFor nodes (ids ++ more) (es ++ others)
StandFor-append nodes [] more [] others first second = second
StandFor-append nodes [] more (e ∷ es) others first second = absurd first
StandFor-append nodes (i ∷ ids) more [] others first second = absurd first
StandFor-append nodes (i ∷ ids) more (e ∷ es) others first second = (first.0, StandFor-append nodes ids more es others first.1 second)

-- all rows one after the other
pub rows-flat : (nodes : List Node) (rows : List (List ExprId)) (es : List (List Expression)) → AllZip (StandFor nodes) rows es → StandFor nodes (flat_map (λ row. row) rows) (flat_map (λ row. row) es)
rows-flat nodes [] [] all = tt
rows-flat nodes [] (e ∷ es) all = absurd all
rows-flat nodes (r ∷ rows) [] all = absurd all
rows-flat nodes (r ∷ rows) (e ∷ es) all = StandFor-append nodes r (flat_map (λ row. row) rows) e (flat_map (λ row. row) es) all.0 (rows-flat nodes rows es all.1)
