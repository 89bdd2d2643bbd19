-- Kinds of sorts, and of the sorts and generics of a block.
use Rattle.ct_sorts.specs.declared.ids.Kind.{Kind}
use Rattle.ct_sorts.specs.declared.ids.Kind.TheVariants.{Bool, Free, Data, Codata}
use Rattle.ct_generics.specs.declared.kind.Kind.{Kind as HeadKind}
use Rattle.ct_generics.specs.declared.kind.Kind.TheVariants.{Bool as OfBool, Free as OfFree, Data as OfData, Codata as OfCodata}

-- the kind of the sorts that a sort or generic of this kind gives
abbrev pub kind_of : HeadKind → Kind
kind_of OfBool = Bool
kind_of OfFree = Free
kind_of OfData = Data
kind_of OfCodata = Codata

-- the kind of the sort or generic of which sorts of this kind are
abbrev pub head_kind : Kind → HeadKind
head_kind Bool = OfBool
head_kind Free = OfFree
head_kind Data = OfData
head_kind Codata = OfCodata
