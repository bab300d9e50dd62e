-- The escapes that the code is asked for.
use Rattle.json_text.specs.Escaped.{Escapes, plain, short}
use Rattle.json_text.specs.declared.quote.Escapes as Code
use Rattle.json_text.specs.declared.quote.Escapes.TheVariants.{Plain, Short}

abbrev pub escapes_of : Code.Escapes → Escapes
escapes_of Plain = plain
escapes_of Short = short
