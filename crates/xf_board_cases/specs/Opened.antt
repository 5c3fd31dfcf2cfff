-- The words of std and of JSON whose bodies worked values are computed by.
unfoldable pub use Rattle.std.specs.Float.Numeral.{scan_numeral}
unfoldable pub use Rattle.std.specs.Fmt.{digits}
unfoldable pub use Rattle.std.specs.Str.{chars, is_utf8}
unfoldable pub use Rattle.json.specs.Json.{value}
unfoldable pub use Rattle.json.specs.Lex.{lex, punctuate}
unfoldable pub use Rattle.json.specs.Text.{content}
unfoldable pub use Rattle.json.specs.Word.{after_number, word}
unfoldable pub use Rattle.serde_json.specs.Read.{number_of}
unfoldable pub use lib.Utf8.{encode}
