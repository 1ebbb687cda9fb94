-- The tables of the code as the lists of kinds that they stand for.
use Rattle.std.specs.Prelude.{List, map}
use Rattle.scope.specs.File.Kinds as scope
use Rattle.common.specs.declared.kinds.Kind.{Kind}
use Rattle.common.specs.declared.kinds.Sort.{Sort}
use Rattle.common.specs.declared.kinds.Sort.TheVariants.{Atom, Principal, Formula, Clause, World}

abbrev pub sort_of : Sort → scope.Sort
sort_of Atom = scope.atom_number
sort_of Principal = scope.principal_number
sort_of Formula = scope.formula_number
sort_of Clause = scope.clause_number
sort_of World = scope.world_number

abbrev pub kind_of : Kind → scope.Kind
kind_of k = record { word = k.word.now; operands = map sort_of k.operands.now }

abbrev pub listed : List Kind → List scope.Kind
listed ks = map kind_of ks
