-- Believed. The jobs of which contents are said: all, with a listing's size as wide as in the guest's message.
use Rattle.std.specs.Prelude.{◌<◌, ◌^◌}
use Rattle.pt_iface.specs.declared.request.Request.{Request}
use Rattle.pt_iface.specs.declared.request.Request.TheVariants as request
use Rattle.pt_job.specs.Pattern.{Asked, Requests, Edits}

abbrev pub IsFilledRequest : Request → Type 0
IsFilledRequest (request.ReadDir inode handle size offset) = size < 2 ^ 32
IsFilledRequest asked = Unit {0}

abbrev pub IsFilled : Asked → Type 0
IsFilled (Requests who asked) = IsFilledRequest asked
IsFilled (Edits edit) = Unit {0}
