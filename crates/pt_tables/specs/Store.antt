-- Inner. The rows and the closing list, as they are kept together.
use Rattle.std.specs.Prelude.{List}
use Rattle.pt_tables.specs.Tables.{Row, HandleRow, Closing}

-- the rows of numbers and of handles, newest first, and the closing list
pub record Stored : Type 0 where
  pub rows : List Row
  pub handles : List HandleRow
  pub closing : List Closing
