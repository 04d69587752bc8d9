-- A text is read from its first byte to its last.
use Rattle.std.proofs.Common.{◌≡◌, ℕ, ◌+◌, ◌-◌, ◌^◌, ◌<◌, ◌≤◌, false, List, [], ◌∷◌, ◌++◌, length, drop, map}
use Rattle.std.proofs.Common.{refl, ap, sym, ◌∙◌, arith}
use Rattle.std.specs.Prelude.{reverse, string_bytes}
use Rattle.std.proofs.lemmas.List.{length-drop}
use Rattle.md_inlines.specs.Brackets.{text_item}
use Rattle.md_inlines.specs.Content.{has_form}
use Rattle.md_inlines.specs.Emphasis.{Item, emphasis}
use Rattle.proof_inlines.specs.Sized.{items_size}
use Rattle.proof_inlines.proofs.EmphasisLemmas.{items-append}
use Rattle.markdown_inlines.specs.declared.attention.PlacedRun.{PlacedRun}
use Rattle.markdown_inlines.specs.declared.brackets.Bracket.{Bracket}
use Rattle.markdown_inlines.specs.declared.brackets.Reading.{Reading}
use Rattle.markdown_inlines.specs.declared.brackets.Source.{Source}
use Rattle.markdown_inlines.specs.declared.span.Span.{Span}
use Rattle.markdown_inlines.specs.Closed.{level_forest}
use Rattle.markdown_inlines.specs.Filled.{Filled, Placed, Shows}
use Rattle.markdown_inlines.specs.Opened.{Opened, reached}
use Rattle.markdown_inlines.specs.Reading.{Frame, unwound}
use Rattle.markdown_inlines.specs.Reads.{Goes, Reads}
use Rattle.markdown_inlines.proofs.LeadingLemmas.{forest-shows}
use Rattle.markdown_inlines.proofs.MachineLemmas.{left-end}
use Rattle.markdown_inlines.proofs.OpenedLemmas.{filled-placed, reached-append, text-long, unwound-filled, unwound-one}

-- nothing is read yet
pub begins : (source : Source) (reading : Reading) → reading.spans.items ≡ [] → reading.runs.items ≡ [] →
    reading.brackets.items ≡ [] → reading.links ≡ false → reading.at ≡ source.start → Reads source reading
begins source reading s r b l a = record {
  state = record { frames = []; items = []; links = false; at = source.start };
  opened = (ap reverse b, (s, r));
  place = omega arith;
  lens = tt;
  at = sym a;
  links = sym l;
  same = refl;
}

-- brackets that are open are text: the bytes are the same
unwound-size : (start : ℕ) (frames : List Frame) (items : List Item) (brackets : List Bracket) (spans : List Span)
    (runs : List PlacedRun) → Opened start frames items brackets spans runs →
    start + items_size (unwound frames items) ≡ reached start frames items
unwound-size start [] items brackets spans runs h = refl
unwound-size start (frame ∷ frames) items brackets spans runs h =
    omega (
      arith,
      unwound-size start frames (frame.items ++ text_item frame.len ∷ items) h.4 spans runs
          (unwound-one start frames frame items brackets spans runs h),
      reached-append start frames frame.items (text_item frame.len ∷ items),
      items-append (text_item frame.len ∷ []) items,
      text-long frame.len,
      h.8,
    )

pub read-placed : (source : Source) (reading : Reading) → Reads source reading → reading.at < 2 ^ 64 →
    Placed (length reading.spans.items) reading.runs.items
read-placed source reading h fits =
    filled-placed (length reading.spans.items) source.start 0 (unwound h.state.frames h.state.items)
    reading.spans.items reading.runs.items
    (unwound-filled source.start h.state.frames h.state.items (reverse reading.brackets.items) reading.spans.items
    reading.runs.items h.opened)
    (omega (
      arith,
      fits,
      h.at,
      h.place,
      unwound-size source.start h.state.frames h.state.items (reverse reading.brackets.items) reading.spans.items
          reading.runs.items h.opened,
    )) (omega arith)

pub read-shows : (source : Source) (reading : Reading) (matched : List Span) → Reads source reading →
    length (drop reading.at source.text.now) ≡ 0 →
    ((at : ℕ) (others own : List Span) (items : List Item) → reading.spans.items ≡ others ++ own →
    Filled at (length others) items own reading.runs.items →
    Shows at others (emphasis source.options.now.gfm_strikethrough_single_tilde items) matched) →
    Shows source.start [] (level_forest source) matched
read-shows source reading matched h done m =
    forest-shows source.start
    (emphasis source.options.now.gfm_strikethrough_single_tilde (unwound h.state.frames h.state.items))
    (level_forest source) [] matched
    (ap (emphasis source.options.now.gfm_strikethrough_single_tilde)
    (sym
    (left-end source.options.now (has_form (map string_bytes source.labels.now.definitions.forms.now))
    (has_form (map string_bytes source.labels.now.footnotes.forms.now)) source.text.now h.state end)
    ∙ h.same))
    (m source.start [] reading.spans.items (unwound h.state.frames h.state.items) refl
    (unwound-filled source.start h.state.frames h.state.items (reverse reading.brackets.items) reading.spans.items
    reading.runs.items h.opened))
  where
    end : length source.text.now ≤ h.state.at
    end =
        omega (arith, done, h.at, length-drop reading.at source.text.now)

pub read-smaller : (source : Source) (old new : Reading) (b : ℕ) (following : List ℕ) → Goes source old new →
    drop old.at source.text.now ≡ b ∷ following →
    length source.text.now - new.at < length source.text.now - old.at
read-smaller source old new b following g is =
    let some : length (drop old.at source.text.now) ≡ length (b ∷ following) = ap length is in
    omega (arith, g.further, some, length-drop old.at source.text.now)
