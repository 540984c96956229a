-- What a table shows.
use Rattle.std.specs.Prelude.{List}
use Rattle.std.specs.Vec.{vec_items}
use Rattle.layout.specs.declared.exception.Exception.{Exception}
use Rattle.exceptions.specs.declared.table.ExceptionTable.{ExceptionTable}

-- its exceptions, in the order in which they were entered
abbrev pub listed : ExceptionTable → List Exception
listed table = vec_items table.items
