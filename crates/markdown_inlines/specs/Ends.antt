-- Searches of a text that fail from a place on.
use Rattle.std.specs.Prelude.{◌≡◌, ℕ, ◌+◌, ◌<◌, ◌≤◌, true, List, Option, None, MatchOption, drop, get_or, codes}
use Rattle.md_meaning.specs.Ascii.{backtick, dollar, dot, greater_than}
use Rattle.md_meaning.specs.Html as html
use Rattle.md_meaning.specs.Lines.{begins_with}
use Rattle.md_inlines.specs.Code.{before_run, raw_at}
use Rattle.md_inlines.specs.Literal.{domain_len, literal_at}
use Rattle.md_inlines.specs.RawHtml.{after_html, after_word}
use Rattle.markdown_inlines.specs.declared.ends.Domainless.{Domainless}
use Rattle.markdown_inlines.specs.declared.ends.Ends.{Ends}
use Rattle.markdown_inlines.specs.declared.ends.Listed.{Listed}
use Rattle.markdown_inlines.specs.declared.ends.Gone.{Gone}
use Rattle.markdown_inlines.specs.declared.ends.Absent.{Absent}

-- after the last run of each number of marks no such run begins
abbrev pub AreLast : ℕ → List ℕ → List ℕ → Type 0
AreLast mark text last =
    (size at : ℕ) → get_or last size 0 ≤ at → before_run mark size true (drop at text) ≡ None

-- from a place on a search fails
abbrev pub IsLast : (List ℕ → Option (List ℕ)) → List ℕ → ℕ → Type 0
IsLast search text last = (at : ℕ) → last ≤ at → search (drop at text) ≡ None

abbrev pub AreListed : ℕ → List ℕ → Option Listed → Type 0
AreListed mark text listed = MatchOption listed (Unit {0}) (λ made. AreLast mark text made.last.items)

pub record AreEnds (text : List ℕ) (ends : Ends) : Type 0 where
  pub code : AreListed backtick text ends.code
  pub math : AreListed dollar text ends.math
  pub comment : IsLast (after_word (codes "-->")) text ends.comment
  pub section : IsLast (after_word (codes "]]>")) text ends.section
  pub instruction : IsLast (after_word (codes "?>")) text ends.instruction
  pub declaration : IsLast (html.after_next greater_than) text ends.declaration

-- ends of raw HTML that are known to be absent from a text
pub record AreGone (gone : Gone) (text : List ℕ) : Type 0 where
  pub comment : gone.comment ≡ true → (k : ℕ) → after_word (codes "-->") (drop k text) ≡ None
  pub section : gone.section ≡ true → (k : ℕ) → after_word (codes "]]>") (drop k text) ≡ None
  pub instruction : gone.instruction ≡ true → (k : ℕ) → after_word (codes "?>") (drop k text) ≡ None
  pub declaration : gone.declaration ≡ true → (k : ℕ) → html.after_next greater_than (drop k text) ≡ None

-- at these places no domain is after three bytes and a dot
abbrev pub AreDomainless : List ℕ → Domainless → Type 0
AreDomainless text places =
    (at : ℕ) → places.from ≤ at → at < places.to → begins_with dot (drop (at + 3) text) ≡ true →
    domain_len (drop (at + 4) text) ≡ None

-- what is known to begin nothing at the front of a text
pub record IsAbsent (absent : Absent) (text : List ℕ) : Type 0 where
  pub code : absent.code ≡ true → raw_at backtick text ≡ None
  pub math : absent.math ≡ true → raw_at dollar text ≡ None
  pub html : absent.html ≡ true → after_html (drop 1 text) ≡ None
  pub address : absent.address ≡ true → (before : List ℕ) → literal_at before text ≡ None
