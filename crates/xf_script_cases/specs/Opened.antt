-- The words of std whose bodies worked values are computed by.
unfoldable pub use Rattle.std.specs.Fmt.{digits}
unfoldable pub use Rattle.std.specs.Str.{chars, is_utf8}
unfoldable pub use Rattle.std.specs.Str.Lossy.{utf8_valid_len}
unfoldable pub use lib.Utf8.{encode}
