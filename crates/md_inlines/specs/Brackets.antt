-- Brackets (CommonMark 6.3, 6.4): the items of a level, from left to right.
--
-- Brackets match like parentheses: between a `[` and its `]` is what no atom and no inner pair takes. A pair is a
-- footnote call, a link or an image if what is in it and after it makes it one, and text otherwise. A link around a
-- link is text.
use Rattle.std.specs.Prelude.{ℕ, zero, suc, ◌+◌, ◌-◌, Bool, true, false, ◌&&◌, ◌||◌, ◌==◌, not, if◌then◌else◌, List, []}
use Rattle.std.specs.Prelude.{◌∷◌, ◌++◌, length, take, drop, Option, Some, None, option_map}
use Rattle.md_engine.specs.declared.event.Name.TheVariants as n
use Rattle.md_meaning.specs.Ascii.{asterisk, caret, exclamation_mark, left_bracket, right_bracket, tilde, underscore}
use Rattle.md_meaning.specs.Lines.{begins_with}
use Rattle.md_inline_events.specs.Forest.{Forest, nothing, over, size}
use Rattle.md_inlines.specs.Flanking.{run_at}
use Rattle.md_inlines.specs.declared.InlineOptions.{InlineOptions}
use Rattle.md_inlines.specs.declared.Run.{Run}
use Rattle.md_inlines.specs.Atoms.{atom}
use Rattle.md_inlines.specs.Emphasis.{Item, emphasis, read, run}
use Rattle.md_inlines.specs.Targets.{call, image, is_call, link, target}

-- The items of a level, and what is left: nothing, or a text that begins with the `]` that ends it. `links` says that a
-- link is among them, at any depth.
pub record Level : Type 0 where
  pub items : List Item
  pub links : Bool
  pub rest : List ℕ

abbrev pub with_items : List Item → Bool → Level → Level
with_items items links next =
    record { items = items ++ next.items; links = links || next.links; rest = next.rest }

abbrev pub text_item : ℕ → Item
text_item len = read (over n.Data len nothing)

-- A pair of brackets that is no text: its forest, how many bytes after its `]` belong to it, and whether it is a link.
pub record Pair : Type 0 where
  pub forest : Forest
  pub taken : ℕ
  pub is_link : Bool

-- What is at the front of a text: an atom, a run, brackets of so many bytes that open, a `]` that ends the level, or a
-- byte of text.
pub data Front : Type 0 where
  is_atom : Forest → Front
  is_run : Run → Front
  opens : ℕ → Front
  closes : Front
  is_text : Front

-- the labels that the document defines, and those of its footnotes
module _ (options : InlineOptions) (is_definition is_footnote : List ℕ → Bool) where
  abbrev pub is_mark : ℕ → Bool
  is_mark b =
      ((b == asterisk) || (b == underscore)) && options.constructs.attention
      || (b == tilde) && options.constructs.gfm_strikethrough

  -- how many bytes of brackets open here; where footnote calls are on, `![^` opens no image
  abbrev pub opening : List ℕ → ℕ
  opening text =
      if begins_with left_bracket text
      then (if options.constructs.label_start_link || options.constructs.gfm_footnote_call then 1 else 0)
      else if begins_with exclamation_mark text && begins_with left_bracket (drop 1 text)
      && options.constructs.label_start_image
      && not (options.constructs.gfm_footnote_call && begins_with caret (drop 2 text))
      then 2 else 0

  -- `inside` says that a bracket is open
  abbrev pub front : Bool → List ℕ → ℕ → List ℕ → Front
  front inside before b text = elim (atom options (not inside) before (b ∷ text)) [
    | Some found ↦ is_atom found
    | None ↦
        (if is_mark b then is_run (run_at b before (b ∷ text))
        else if not (opening (b ∷ text) == 0) then opens (opening (b ∷ text))
        else if inside && (b == right_bracket) then closes
        else is_text)
  ]

  abbrev pub leading : (Forest → Forest → Forest) → Bool → List Item → Forest → Pair
  leading whole is_link items leads = record {
    forest = whole (emphasis options.gfm_strikethrough_single_tilde items) leads;
    taken = size leads;
    is_link = is_link;
  }

  -- What a pair is: its first bracket has so many bytes, its inner level was read, over these bytes, and these follow.
  abbrev pub pair : ℕ → Level → List ℕ → List ℕ → Option Pair
  pair len inner inside after =
      if len == 2 then option_map (leading image false inner.items) (target options is_definition inside after)
      else if options.constructs.gfm_footnote_call && is_call is_footnote inside
      then Some (record { forest = call (length inside - 1); taken = 0; is_link = false })
      else if inner.links || not options.constructs.label_start_link then None
      else option_map (leading link true inner.items) (target options is_definition inside after)

  -- A bracket of so many bytes that opens at the front of a text, whose inner level was read: no `]` ends it, and it is
  -- text, or one does. `next` is the level from so many bytes on.
  abbrev pub bracket_level : (ℕ → Level) → List ℕ → ℕ → Level → List ℕ → Level
  bracket_level next text len inner [] =
      record { items = text_item len ∷ inner.items; links = inner.links; rest = [] }
  bracket_level next text len inner (close ∷ after) =
      let whole : ℕ = length text - length after in
      elim (pair len inner (drop len (take (whole - 1) text)) after) [
        | None ↦ with_items (text_item len ∷ inner.items ++ text_item 1 ∷ []) inner.links (next whole)
        | Some found ↦
            with_items (read found.forest ∷ []) (inner.links || found.is_link) (next (whole + found.taken))
      ]

  -- What is at the front of a text, and the level after it. `inner` is the level within brackets.
  abbrev pub front_level : (ℕ → Level) → (ℕ → Level) → List ℕ → Front → Level
  front_level next inner text (is_atom found) = with_items (read found ∷ []) false (next (size found))
  front_level next inner text (is_run r) = with_items (run r ∷ []) false (next r.left)
  front_level next inner text is_text = with_items (text_item 1 ∷ []) false (next 1)
  front_level next inner text closes = record { items = []; links = false; rest = text }
  front_level next inner text (opens len) = bracket_level next text len (inner len) (inner len).rest

  -- The items of a text after another. So many steps suffice as it has bytes.
  abbrev pub content : ℕ → Bool → List ℕ → List ℕ → Level
  content zero inside before text = record { items = []; links = false; rest = text }
  content (suc more) inside before [] = record { items = []; links = false; rest = [] }
  content (suc more) inside before (b ∷ text) =
      front_level (λ len. content more inside (before ++ take len (b ∷ text)) (drop len (b ∷ text)))
      (λ len. content more true (before ++ take len (b ∷ text)) (drop len (b ∷ text))) (b ∷ text)
      (front inside before b text)
