-- One name to unfold where a proof computes with the inline constructs of this crate.
use Rattle.md_meaning.specs.Enclosed.{enclosed}
use Rattle.md_inlines.specs.Autolink as autolink
use Rattle.md_inlines.specs.Autolink.{uri_len}
use Rattle.md_inlines.specs.Breaks.{break_len, trailing_len}
use Rattle.md_inlines.specs.Characters.{side}
use Rattle.md_inlines.specs.Code.{raw_at}
use Rattle.md_inlines.specs.Escape.{reference_at}
use lib.Utf8.{encode}
use Rattle.std.specs.Str.{chars, is_utf8}
use Rattle.ucd_category.proofs.Computing.{ucd_category}
use Rattle.md_inlines.specs.Literal as literal
use Rattle.md_inlines.specs.Literal.{after_domain_character, domain_len, email_at, literal_at, trimmed}
use Rattle.md_inlines.specs.Flanking.{run_at}
use Rattle.md_inlines.specs.RawHtml.{after_assignment, after_attribute, after_closing, after_comment}
use Rattle.md_inlines.specs.RawHtml.{after_html}
use Rattle.md_inlines.specs.RawHtml.{after_marked, after_opening, after_value}
use Rattle.md_inlines.specs.Target.{destination_len, label_len, literal_len, raw_len, resource_at, title_len}

unfoldable pub html : Unit {0}
unfolding after_assignment after_attribute after_closing after_comment after_html after_marked after_opening after_value
html = tt

unfoldable pub targets : Unit {0}
unfolding enclosed destination_len label_len literal_len raw_len resource_at title_len
targets = tt

-- `unfolding grammars` lets `refl` compute what is in a text, but for names of characters, categories and literals
unfoldable pub grammars : Unit {0}
unfolding html targets enclosed uri_len autolink.email_len break_len trailing_len side raw_at reference_at run_at
grammars = tt

-- and this literals, but for characters beyond ASCII
unfoldable pub literals : Unit {0}
unfolding literal.email_len after_domain_character domain_len email_at literal_at trimmed
literals = tt

-- and this characters beyond ASCII
unfoldable pub characters : Unit {0}
unfolding chars is_utf8 encode ucd_category
characters = tt
