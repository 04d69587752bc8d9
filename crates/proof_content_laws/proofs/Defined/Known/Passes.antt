-- The text of a label or of a title as an outline goes over it: no prefix is in its first line.
use Rattle.std.proofs.Common.{◌≡◌, ◌+◌, ℕ, true, cond, List, [], ◌++◌, get_or, refl, sym, ap}
use Rattle.std.proofs.Common.{◌∙◌, append_assoc, arith, slice_range, subst}
use Rattle.std.specs.Prelude.{◌==◌, slice_index}
use Rattle.std.specs.List.{list_any}
use Rattle.md_engine.specs.declared.event.Event.{Event}
use Rattle.md_engine.specs.declared.event.Name.{Name}
use Rattle.md_engine.specs.declared.event.Point.{Point}
use Rattle.md_meaning.specs.Lines.{is_ending}
use Rattle.md_meaning.proofs.TextsLemmas.{Both, Ending, LineFeed, Return, ending_bytes}
use Rattle.md_outline.specs.LinesAllowed.{Part, part_site}
use Rattle.md_outline.proofs.DefinedPass.{any-slice, part_begin, part_purpose, passes-part, passes-part_line}
use Rattle.md_outline.proofs.LinesPass.{Passes}
use Rattle.md_events.specs.Events.Inline.{plain_chunk}
use Rattle.md_events.specs.Events.Nested.{around}
use Rattle.md_events.specs.Events.Spelled.{TextRole, byte_at, role}
use Rattle.md_events.proofs.FeedLines.{IsEnding, ending-some}
use Rattle.md_events.proofs.SpelledLemmas.{Between, QuietOrEnding, Roles, roles-append}
use Rattle.proof_content_laws.proofs.Defined.Form.{IsBreak, IsRun, Strand, strand_done}
use Rattle.proof_content_laws.proofs.Defined.Strings.Lines.{AreLines, Last, More}
use Rattle.proof_content_laws.proofs.Defined.Strings.Lines as lines
use Rattle.proof_content_laws.proofs.Defined.Strings.Parts.{strand-inside}
use Rattle.proof_frame.proofs.FrontLemmas.{fronts-balanced, fronts-spans}
use Rattle.proof_frame.proofs.FrontNames.{fronts-prefixes}
use Rattle.proof_frame.proofs.PlainRoles.{chunk-roles}
use Rattle.proof_frame.proofs.PrefixNames.{prefixes-roles}
use Rattle.proof_frame.proofs.SpanLemmas.{Nested_in, nested_in-append}
use Rattle.proof_content_laws.proofs.Text.MayPart.{line-at}

-- the ending of a line begins with a byte that ends a line
ending-first : (ending : Ending) →
    (b : ℕ) × (at : get_or (ending_bytes ending) 0 0 ≡ b) × (is_ending b ≡ true)
ending-first LineFeed = (10, refl, refl)
ending-first Return = (13, refl, refl)
ending-first Both = (13, refl, refl)

-- so a text has one, up to after the ending of its first line
first-ended : (bytes text : List ℕ) (p e b : Point) → p.vs ≡ 0 → IsRun bytes text p e → IsEnding bytes e b →
    list_any is_ending (slice_range bytes (byte_at p) b.index) ≡ true
first-ended bytes text p e b whole run is =
    let some = ending-some is.ending in
    let first = ending-first is.ending in
    let from : byte_at p ≡ p.index = ap (λ (k : ℕ). cond (k == 0) p.index (p.index + 1)) whole in
    let at : slice_index bytes (e.index + 0) ≡ first.0 =
    line-at bytes (ending_bytes is.ending) e.index b.index 0 first.0 is.text is.size some first.1 in
    let place : e.index + 0 ≡ e.index = omega arith in
    any-slice bytes (byte_at p) e.index b.index (omega (arith, from, run.size)) (omega (arith, some, is.size))
    (omega (arith, some, is.size, is.in_text))
    (ap (λ (k : ℕ). is_ending (slice_index bytes k)) (sym place) ∙ ap is_ending at ∙ first.2)

-- prefixes, and what follows them
further-nested : (bytes : List ℕ) (e b r q : Point) (front : List Event) (s : Strand) → IsBreak bytes e b r front →
    AreLines bytes r q s → Nested_in b q (front ++ strand_done bytes s)
further-nested bytes e b r q front s break more =
    nested_in-append b r q front (strand_done bytes s)
    (fronts-balanced bytes [] b r front break.front_is refl, fronts-spans bytes [] b r front break.front_is)
    (strand-inside bytes r q s more).nested

further-between : (bytes : List ℕ) (e b r q : Point) (front : List Event) (s : Strand) → IsBreak bytes e b r front →
    AreLines bytes r q s → Roles Between (front ++ strand_done bytes s)
further-between bytes e b r q front s break more =
    roles-append Between front (strand_done bytes s)
    (prefixes-roles Between front tt tt tt (fronts-prefixes bytes [] b r front refl break.front_is))
    (strand-inside bytes r q s more).roles

pub strand-passes : (bytes : List ℕ) (part : Part) (name : Name) (p q : Point) (s : Strand) →
    role name ≡ TextRole (part_purpose part) → p.vs ≡ 0 → AreLines bytes p q s →
    Passes bytes (part_begin part) (part_site part) (around name p q (strand_done bytes s))
strand-passes bytes part name q _ _ is whole (lines.NoneLeft _ last) =
    passes-part_line bytes part name q q [] is tt
strand-passes bytes part name p q _ is whole (Last _ _ text some run) =
    passes-part_line bytes part name p q (plain_chunk bytes (record { first = p; after = q })) is
    (chunk-roles QuietOrEnding bytes (record { first = p; after = q }) tt tt)
strand-passes bytes part name p q _ is whole (More _ e b r _ text front s run break more) =
    subst
    (λ (es : List Event). Passes bytes (part_begin part) (part_site part) (around name p q es))
    (sym (append_assoc (plain_chunk bytes (record { first = p; after = b })) front (strand_done bytes s)))
    (passes-part bytes part name p b q (plain_chunk bytes (record { first = p; after = b }))
    (front ++ strand_done bytes s) is (chunk-roles QuietOrEnding bytes (record { first = p; after = b }) tt tt)
    (first-ended bytes text p e b whole run break.ending) nested.0 nested.1.0
    (further-between bytes e b r q front s break more))
  where
    nested : Nested_in b q (front ++ strand_done bytes s)
    nested = further-nested bytes e b r q front s break more
