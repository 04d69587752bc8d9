-- What is in a heading keeps the grammar of events.
use Rattle.std.proofs.Common.{◌≡◌, ℕ, Bool, true, false, List, [], ◌∷◌, ◌++◌, refl, sym, subst, append-nil}
use Rattle.std.specs.Prelude.{Option, Some, None}
use Rattle.md_engine.specs.declared.event.Event.{Event}
use Rattle.md_engine.specs.declared.event.Name.TheVariants as n
use Rattle.md_engine.specs.declared.event.Point.{Point}
use Rattle.md_leaves.specs.HeadingRule.{is_heading}
use Rattle.md_leaves.specs.HeadingText.{linked_text}
use Rattle.md_leaves.specs.HeadingTitle.{title_of, unread_title}
use Rattle.md_events.specs.declared.inline.Chunk.{Chunk}
use Rattle.md_events.specs.Events.Grammar.{Expression, inside, plain_text, unread_text}
use Rattle.md_events.specs.Events.Inline.{plain_chunk}
use Rattle.md_meaning.specs.Rest.{trim_start}
use Rattle.md_events.proofs.GrammarLemmas.{IsWord, Leads, leads-around, maybe}
use Rattle.proof_leaf_laws.specs.Leaf.HeadingAtx.{read_text, read_title}
use Rattle.proof_frame.proofs.ChunkFacts.{chunk-word}
use Rattle.md_leaves.proofs.HeadingGrammar.{title-word}

-- what is there is a text, or nothing
abbrev IsHeadingText : Expression → List Event → Type 0
IsHeadingText text events =
    (some : Bool) × ((x : Expression) → Leads text (x ∷ []) (maybe some n.HeadingAtxText x ∷ []) events)

-- the text of a heading is one chunk
linked-text : (chunk : Option Chunk) → IsHeadingText unread_text (linked_text chunk)
linked-text None = (false, λ x outer. refl)
linked-text (Some chunk) = (true, λ x outer. refl)

-- the text of a heading
read-text : (bytes : List ℕ) (chunk : Option Chunk) → IsHeadingText plain_text (read_text bytes chunk)
read-text bytes None = (false, λ x outer. refl)
read-text bytes (Some chunk) =
    let words : IsWord plain_text (plain_text ∷ []) (plain_chunk bytes chunk ++ []) = subst
    (IsWord plain_text (plain_text ∷ [])) (sym (append-nil (plain_chunk bytes chunk)))
    (chunk-word bytes true chunk) in (
      true,
      λ x. leads-around plain_text x n.HeadingAtxText chunk.first chunk.after (plain_chunk bytes chunk ++ []) words,
    )

-- so what is in the heading is a word of it, before its text is read and once it is
pub unread-word : (line : List ℕ) (p : Point) → is_heading (trim_start line) ≡ true →
    IsWord unread_text (inside unread_text n.HeadingAtx ∷ []) (unread_title (title_of line p))
unread-word line p h =
    let words = linked-text (title_of line p).text in
    title-word unread_text line p words.0 (linked_text (title_of line p).text) h words.1

pub read-word : (bytes line : List ℕ) (p : Point) → is_heading (trim_start line) ≡ true →
    IsWord plain_text (inside plain_text n.HeadingAtx ∷ []) (read_title bytes (title_of line p))
read-word bytes line p h =
    let words = read-text bytes (title_of line p).text in
    title-word plain_text line p words.0 (read_text bytes (title_of line p).text) h words.1
