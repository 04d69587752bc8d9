-- Nothing is on a line of code that a resolver rewrites, and no content.
use Rattle.std.proofs.Common.{◌≡◌, ℕ, Bool, true, false, cond, List, [], ◌∷◌, refl, ap}
use Rattle.std.specs.Prelude.{Some, None}
use Rattle.md_engine.specs.declared.configuration.ParseOptions.{ParseOptions}
use Rattle.md_engine.specs.declared.event.Content.{Content}
use Rattle.md_engine.specs.declared.event.Content.TheVariants as content
use Rattle.md_engine.specs.declared.event.Event.{Event}
use Rattle.md_engine.specs.declared.event.Kind.TheVariants.{Enter, Exit}
use Rattle.md_engine.specs.declared.event.Name.TheVariants as n
use Rattle.md_engine.specs.declared.event.Point.{Point}
use Rattle.md_engine.specs.declared.tokenizer.held_leaf.HeldLeaf.{HeldLeaf}
use Rattle.md_engine.specs.Meaning.{Cell}
use Rattle.md_meaning.specs.Bytes.{is_end}
use Rattle.md_meaning.specs.Rest.{Rest, is_blank}
use Rattle.md_literal.specs.CodeRule.{blank_adds, line_adds}
use Rattle.md_leaves.specs.Further.{further_link}
use Rattle.md_events.specs.Ahead.{begins_white, line_bytes, line_end, white_end, white_rest}
use Rattle.md_events.specs.Events.Nested.{enter, enter_link, exit, pair}
use Rattle.md_events.specs.Events.Places.{past_text}
use Rattle.md_events.specs.Substituted.{wanted}
use Rattle.proof_literal_laws.specs.Leaf.CodeIndented.{code_further, code_leaf, code_parts, line_parts}
use Rattle.proof_frame.specs.LineColumns.{rest_of}
use Rattle.proof_literal_laws.proofs.CodeIndented.Parts.{code-inside}
use Rattle.proof_frame.proofs.ContentFacts.{NoContent}
use Rattle.proof_frame.proofs.EventNames.{is_recorded}
use Rattle.proof_frame.proofs.EachEvent.{each-append}
use Rattle.proof_literal_laws.proofs.IndentRemoved.Names.{AreInside, More, either-part, inside-lined, inside-no_content}
use Rattle.proof_frame.proofs.LinedFacts.{AreLined, IsLined}
use Rattle.proof_frame.proofs.SpanLemmas.{either}

-- On a blank line whitespace is, and a part of a leaf.
blank-inside : (cells : List Cell) (p : Point) → AreInside (blank_adds cells p)
blank-inside cells p = λ P none more.
    either-part P more (begins_white cells) n.SpaceOrTab p (white_end 4 cells p) _ refl
    (chunk P none more (is_end (line_bytes (white_rest 4 cells))))
  where
    chunk : (P : List Event → Type 0) → P [] → More P → (x : Bool) →
        P (cond x [] (pair n.CodeFlowChunk (white_end 4 cells p) (line_end cells p)))
    chunk P none more true = none
    chunk P none more false =
        more Enter n.CodeFlowChunk (white_end 4 cells p) _ refl
        (more Exit n.CodeFlowChunk (line_end cells p) [] refl none)

-- No part of it is rewritten.

-- Its names may be in a leaf of several lines.

line-lined : (begin : Event) (r : Rest) (p q : Point) → IsLined begin → AreLined (line_parts begin r p q)
line-lined begin r p q is = (
  is,
  each-append IsLined (code_parts r p q) (exit n.CodeIndented q ∷ [])
      (inside-lined (code_parts r p q) (code-inside r p q)) (refl, tt),
)

pub code-lined : (options : ParseOptions) (on : HeldLeaf) (line : List ℕ) (p : Point) →
    AreLined (code_leaf.added options on line p)
code-lined options on line p = line-lined (enter n.CodeIndented p) (rest_of p line) p (past_text line p) refl

pub code_further-lined : (options : ParseOptions) (on : HeldLeaf) (line : List ℕ) (p : Point) →
    AreLined (code_further.added options on line p)
code_further-lined options on line p =
    let r : Rest = rest_of p line in
    let q : Point = past_text line p in
    let begin : Event = enter_link n.CodeIndented p further_link in
    either AreLined (is_blank r.bytes) (code_parts r p q) (line_parts begin r p q)
    (inside-lined (code_parts r p q) (code-inside r p q)) (line-lined begin r p q refl)

-- No content is in it, and its link is to none that is read later.

line-no_content : (wants : Content → Bool) (begin : Event) (cells : List Cell) (p : Point) →
    wanted wants begin ≡ None → is_recorded begin.name ≡ false → NoContent wants (line_adds begin cells p)
line-no_content wants begin cells p unwanted none =
    (unwanted, none, (refl, refl, (refl, refl, (refl, refl, (refl, refl, (refl, refl, tt))))))

pub code-no_content : (wants : Content → Bool) (options : ParseOptions) (on : HeldLeaf) (cells : List Cell)
    (p : Point) → NoContent wants (code_leaf.adds options on cells p)
code-no_content wants options on cells p = line-no_content wants (enter n.CodeIndented p) cells p refl refl

pub code_further-no_content : (wants : Content → Bool) → wants content.Flow ≡ false → (options : ParseOptions)
    (on : HeldLeaf) (cells : List Cell) (p : Point) → NoContent wants (code_further.adds options on cells p)
code_further-no_content wants flow options on cells p =
    let begin : Event = enter_link n.CodeIndented p further_link in
    either (NoContent wants) (is_blank (line_bytes cells)) (blank_adds cells p) (line_adds begin cells p)
    (inside-no_content wants (blank_adds cells p) (blank-inside cells p))
    (line-no_content wants begin cells p (ap (λ (x : Bool). cond x (Some content.Flow) None) flow) refl)
