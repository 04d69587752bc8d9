-- The events of a heading as its states leave them: in it each run is by itself, and after it is open what was before.
use Rattle.std.proofs.Common.{◌≡◌, ℕ, ◌+◌, true, false, List, [], ◌∷◌, ◌++◌, drop, length, take, refl, sym, ◌∙◌, subst}
use Rattle.std.proofs.Common.{append_assoc}
use Rattle.std.specs.Prelude.{Option, Some, None}
use Rattle.md_engine.specs.declared.event.Event.{Event}
use Rattle.md_engine.specs.declared.event.Name.{Name}
use Rattle.md_engine.specs.declared.event.Name.TheVariants as n
use Rattle.md_engine.specs.declared.event.Point.{Point}
use Rattle.md_leaves.specs.HeadingRuns.{Apart, Hashes, Run, White, begun, closes, heading_link, is_continued, line_runs}
use Rattle.md_leaves.specs.HeadingRuns.{linked_data, opens}
use Rattle.md_leaves.specs.HeadingTitle.{Title, flow_title, front_len, text_of, title_of}
use Rattle.md_events.specs.declared.inline.Chunk.{Chunk}
use Rattle.md_events.specs.Events.Nested.{exit}
use Rattle.md_events.specs.Events.Places.{past_byte, past_text}
use Rattle.md_order.proofs.Nests.Fits.{RunsAlone}
use Rattle.proof_leaf_laws.specs.Leaf.HeadingAtx.{heading_around}
use Rattle.proof_frame.proofs.NestFacts.{HeldIn, KeepsItems, KeepsRuns, NestFacts, OfPart, items-around, items-part}
use Rattle.proof_frame.proofs.SpanLemmas.{either}
use Rattle.proof_leaf_laws.proofs.HeadingAtx.Names.{heading-added_unturned}
use Rattle.proof_leaf_laws.proofs.HeadingAtx.Places.{text_end}

-- What holds of each of its parts.
record OfHeading (X : List Name → List Event → Type 0) : Type 0 where
  white : OfPart X n.SpaceOrTab
  hashes : OfPart X n.HeadingAtxSequence
  chunk : OfPart X n.Data

-- what is open within a run
abbrev opened : Run → List Name
opened Apart = []
opened White = n.SpaceOrTab ∷ []
opened Hashes = n.HeadingAtxSequence ∷ []

run-begins : (X : List Name → List Event → Type 0) → OfHeading X → (run : Run) (p : Point) (es : List Event) →
    X (opened run) es → X [] (opens run p ++ es)
run-begins X of Apart p es h = h
run-begins X of White p es h = of.white.begins p None es h
run-begins X of Hashes p es h = of.hashes.begins p None es h

run-ends : (X : List Name → List Event → Type 0) → OfHeading X → (run : Run) (p : Point) (es : List Event) → X [] es →
    X (opened run) (closes run p ++ es)
run-ends X of Apart p es h = h
run-ends X of White p es h = of.white.ends p es h
run-ends X of Hashes p es h = of.hashes.ends p es h

runs-part : (X : List Name → List Event → Type 0) → OfHeading X → (run : Run) (bs : List ℕ) (p : Point)
    (rest : List Event) → X [] rest → X (opened run) (line_runs run bs p ++ rest)
runs-part X of run [] p rest h = run-ends X of run p rest h
runs-part X of run (b ∷ bs) p rest h =
    either (λ (es : List Event). X (opened run) (es ++ rest)) (is_continued run b) _ _
    (runs-part X of run bs (past_byte b p) rest h)
    (subst (X (opened run))
    (sym
    (append_assoc (closes run p ++ opens (begun b) p) next rest
    ∙ append_assoc (closes run p) (opens (begun b) p) (next ++ rest)))
    (run-ends X of run p (opens (begun b) p ++ (next ++ rest))
    (run-begins X of (begun b) p (next ++ rest) (runs-part X of (begun b) bs (past_byte b p) rest h))))
  where
    next : List Event
    next = line_runs (begun b) bs (past_byte b p)

data-part : (X : List Name → List Event → Type 0) → OfHeading X → (text : Option Chunk) (rest : List Event) →
    X [] rest → X [] (linked_data text ++ rest)
data-part X of None rest h = h
data-part X of (Some chunk) rest h =
    of.chunk.begins chunk.first (Some heading_link) (exit n.Data chunk.after ∷ rest)
    (of.chunk.ends chunk.after rest h)

-- all that is in it
title-part : (X : List Name → List Event → Type 0) → OfHeading X → (line : List ℕ) (p : Point) (rest : List Event) →
    X [] rest → X [] (flow_title (title_of line p) ++ rest)
title-part X of line p rest h =
    subst (X [])
    (sym (append_assoc (title.front ++ words) title.back rest ∙ append_assoc title.front words (title.back ++ rest)))
    (runs-part X of Apart (take (front_len line) line) p (words ++ (title.back ++ rest))
    (data-part X of title.text (title.back ++ rest)
    (runs-part X of Apart (drop (front_len line + length (text_of line)) line) (text_end line p) rest h)))
  where
    title : Title
    title = title_of line p

    words : List Event
    words = linked_data title.text

-- Each run is by itself.

abbrev InHeading : List Name → List Event → Type 0
InHeading names es = RunsAlone (Some names) es

runs-of : OfHeading InHeading
runs-of = record {
  white = record { begins = λ p link es h. (refl, λ k. refl, h); ends = λ p es h. (refl, λ k. refl, h) };
  hashes = record { begins = λ p link es h. (refl, λ k. refl, h); ends = λ p es h. (refl, λ k. refl, h) };
  chunk = record { begins = λ p link es h. (refl, λ k. refl, h); ends = λ p es h. (refl, λ k. refl, h) };
}

heading-runs : (line : List ℕ) (p : Point) → KeepsRuns (heading_around line p (flow_title (title_of line p)))
heading-runs line p = λ ys h.
    let end : List Event = exit n.HeadingAtx (past_text line p) ∷ [] in
    subst (RunsAlone (Some [])) (sym (append_assoc (flow_title (title_of line p)) end ys))
    (title-part InHeading runs-of line p (end ++ ys) (refl, λ k. absurd (let no : false ≡ true = k in cc), h))

-- No item is in it.
heading-items : (line : List ℕ) (p : Point) → KeepsItems (heading_around line p (flow_title (title_of line p)))
heading-items line p =
    items-around n.HeadingAtx p (past_text line p) (flow_title (title_of line p)) refl
    (λ names rest h.
    title-part (HeldIn names)
    (record {
      white = items-part names n.SpaceOrTab refl;
      hashes = items-part names n.HeadingAtxSequence refl;
      chunk = items-part names n.Data refl;
    }) line p rest h)

pub heading-nests : (line : List ℕ) (p : Point) → NestFacts (heading_around line p (flow_title (title_of line p)))
heading-nests line p = record {
  items = heading-items line p;
  runs = heading-runs line p;
  turns = heading-added_unturned line p;
}
