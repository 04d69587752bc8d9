-- All that is asked of the texts of a definition.
use Rattle.std.proofs.Common.{◌≡◌, ◌≢◌, ℕ, true, List, [], ◌∷◌, ◌++◌, refl, ap, sym, ◌∙◌, subst}
use Rattle.std.specs.Prelude.{not, Option, Some, option_map}
use Rattle.std.proofs.lemmas.Bool.{and_from, or_right}
use Rattle.md_engine.specs.declared.event.Event.{Event}
use Rattle.md_engine.specs.declared.event.Name.{Name}
use Rattle.md_engine.specs.declared.event.Name.TheVariants as n
use Rattle.md_engine.specs.declared.event.Point.{Point}
use Rattle.md_containers.specs.ItemsAllowed.{IsPart}
use Rattle.md_outline.specs.Roles.{is_recorded, is_unlisted}
use Rattle.md_link_definitions.specs.Chunks.{string_link}
use Rattle.md_events.specs.Events.Endings.{on_line}
use Rattle.md_events.specs.Events.Grammar.{Expression, plain_text, unread_text}
use Rattle.md_events.specs.Events.Inline.{plain_chunk}
use Rattle.md_events.specs.Events.Nested.{around, enter, enter_link, exit}
use Rattle.md_meaning.specs.Tree.{Line}
use Rattle.md_events.specs.Events.Spelled.{AsDestination, AsLabel, AsTitle, DefinitionLeaf, DefinitionSoFar, OpenLeaf}
use Rattle.md_events.specs.Events.Spelled.{Purpose, Text, begun, noted, role, text_to, first_recorded, with_title}
use Rattle.md_events.proofs.BlocksLemmas.{read-recorded}
use Rattle.md_events.proofs.EndingsLemmas.{AreOthers, Stays, is_other, stays-append, stays-others}
use Rattle.md_events.proofs.GrammarLemmas.{IsWord, leads-around}
use Rattle.md_events.proofs.SpelledLemmas.{text_after}
use Rattle.proof_content_laws.proofs.Defined.Form.{IsRun, IsStrand, LastLine, Strand, strand_done, strand_lines}
use Rattle.proof_content_laws.proofs.Defined.Form.{strand_unread}
use Rattle.proof_content_laws.proofs.Defined.Strings.Facts.{FurtherFilled, IsString, StringFacts, label_recorded}
use Rattle.proof_content_laws.proofs.Defined.Strings.Facts.{target_recorded, title_recorded}
use Rattle.proof_content_laws.proofs.Defined.Strings.Lines.{AreLines, Last, More, NoneLeft, strand-lines}
use Rattle.proof_content_laws.proofs.Defined.Strings.Parted.{line-sits, strand-sits}
use Rattle.proof_content_laws.proofs.Defined.Strings.Parts.{strand-begins, strand-inside, strand-one, strand-order}
use Rattle.proof_content_laws.proofs.Defined.Strings.Places.{HasLine, done-starts, strand-some, unread-starts}
use Rattle.proof_content_laws.proofs.Defined.Strings.Reads.{recorded-line, recorded-lines}
use Rattle.proof_content_laws.proofs.Defined.Strings.Words.{done-stays, done-word, unread-stays, unread-word}
use Rattle.proof_frame.proofs.LeafAllowed.{between-part}
use Rattle.proof_frame.proofs.PartedFacts.{PrefixesAtLineStart, clear}
use Rattle.proof_frame.proofs.PlainFacts.{known-around}
use Rattle.proof_frame.proofs.PartsFacts.{ReadsLeaf}
use Rattle.proof_frame.proofs.TextInside.{stretch-part}
use Rattle.proof_frame.proofs.IndentRemoved.Shown.{whole-clear}

-- it ends in no tab
end-whole : (bytes : List ℕ) (p q : Point) (s : Strand) → AreLines bytes p q s → q.vs ≡ 0
end-whole bytes q _ _ (NoneLeft _ whole) = whole
end-whole bytes p q _ (Last _ _ text some run) = run.whole
end-whole bytes p q _ (More _ e b r _ text front s run break more) = end-whole bytes r q s more

-- Around them.

string-stays : (name : Name) (purpose : Purpose) (p q : Point) (es : List Event) → IsString name purpose → Stays es →
    Stays (around name p q es)
string-stays name purpose p q es named h =
    let begin : AreOthers (enter name p ∷ []) = and_from (is_other (on_line name)) true named.other refl in
    let end : AreOthers (exit name q ∷ []) = and_from (is_other (on_line name)) true named.other refl in
    stays-append (enter name p ∷ []) (es ++ exit name q ∷ []) (stays-others (enter name p ∷ []) begin)
    (stays-append es (exit name q ∷ []) h (stays-others (exit name q ∷ []) end))

-- What it says of a definition is read so.

abbrev Says : List ℕ → Purpose → Point → Point → (DefinitionSoFar → DefinitionSoFar) → Strand → Type 0
Says bytes purpose p q records s =
    let text : Text = text_after bytes (begun p) (strand_done bytes s) in
    (d : DefinitionSoFar) →
    noted purpose (record { spaces = text.spaces; text = text_to bytes q.index text }) (DefinitionLeaf d) ≡
    DefinitionLeaf (records d)

string-reads : (bytes : List ℕ) (name : Name) (purpose : Purpose) (p q : Point)
    (records : DefinitionSoFar → DefinitionSoFar) (s : Strand) (d : DefinitionSoFar) → IsString name purpose →
    AreLines bytes p q s → Says bytes purpose p q records s →
    ReadsLeaf bytes (DefinitionLeaf d) (DefinitionLeaf (records d)) (around name p q (strand_done bytes s))
string-reads bytes name purpose p q records s d named lines says r none opened =
    let text : Text = text_after bytes (begun p) (strand_done bytes s) in
    let line : Line = record { spaces = text.spaces; text = text_to bytes q.index text } in
    read-recorded bytes r name purpose p q (strand_done bytes s) named.records none
    (strand-inside bytes p q s lines).roles
    ∙ named.leaf line r
    ∙ ap (λ (o : Option OpenLeaf). record r { leaf = option_map (noted purpose line) o }) opened
    ∙ ap (λ (l : OpenLeaf). record r { leaf = Some l }) (says d)

-- all of it, where it is parted
string-facts : (bytes : List ℕ) (name : Name) (purpose : Purpose) (p q : Point)
    (records : DefinitionSoFar → DefinitionSoFar) (s : Strand) → IsString name purpose → p.vs ≡ 0 → HasLine s →
    AreLines bytes p q s → PrefixesAtLineStart bytes (around name p q (strand_done bytes s)) →
    Says bytes purpose p q records s →
    StringFacts bytes name purpose p q records (strand_unread s) (strand_done bytes s)
string-facts bytes name purpose p q records s named whole has lines parted says = record {
  facts = λ x d. record {
    stretch =
        stretch-part IsPart name named.part between-part named.kind (unread-starts s has)
        (done-starts bytes p q s has lines) (strand-begins bytes p q s has lines) (strand-one bytes p q s lines)
        (strand-order bytes p q s lines) parted (strand-inside bytes p q s lines);
    unread_word =
        leads-around unread_text x name p q unread
        (subst (λ (y : Expression). IsWord unread_text (y ∷ []) unread) (sym (named.inside_is unread_text))
        (unread-word bytes p q s has lines));
    word =
        leads-around plain_text x name p q done
        (subst (λ (y : Expression). IsWord plain_text (y ∷ []) done) (sym (named.inside_is plain_text))
        (done-word bytes true p q s lines));
    unread_stays = string-stays name purpose p q unread named (unread-stays bytes p q s lines);
    stays = string-stays name purpose p q done named (done-stays bytes p q s lines);
    reads = string-reads bytes name purpose p q records s d named lines says;
  };
  texts = (strand-inside bytes p q s lines).roles;
  known = λ unlisted.
      known-around bytes name p q done (ap is_unlisted named.records ∙ unlisted)
      (or_right (not (is_recorded (role name))) (clear bytes p) (whole-clear bytes p whole))
      (or_right (not (is_recorded (role name))) (clear bytes q)
      (whole-clear bytes q (end-whole bytes p q s lines)))
      (strand-inside bytes p q s lines).plain.known;
}
  where
    unread : List Event
    unread = strand_unread s

    done : List Event
    done = strand_done bytes s

-- A label.

label-name : IsString n.DefinitionLabelString AsLabel
label-name =
    record { records = refl; leaf = λ line r. refl; kind = refl; inside_is = λ text. refl; other = refl; part = tt }

-- All that is asked of the text of a label.
pub label-facts : (bytes : List ℕ) (p q : Point) (s : Strand) → p.vs ≡ 0 → IsStrand bytes p q s → FurtherFilled s →
    StringFacts bytes n.DefinitionLabelString AsLabel p q (label_recorded (strand_lines s)) (strand_unread s)
    (strand_done bytes s)
label-facts bytes p q s whole is filled =
    let lines : AreLines bytes p q s = strand-lines bytes p q s is in
    string-facts bytes n.DefinitionLabelString AsLabel p q (label_recorded (strand_lines s)) s label-name whole
    (strand-some bytes p q s is) lines
    (strand-sits bytes n.DefinitionLabelString AsLabel p q s refl refl filled lines)
    (λ d. ap (λ (l : List (List ℕ)). DefinitionLeaf (record d { label = first_recorded d.label l }))
    (recorded-lines bytes p q s whole filled lines))

-- A title.

title-name : IsString n.DefinitionTitleString AsTitle
title-name =
    record { records = refl; leaf = λ line r. refl; kind = refl; inside_is = λ text. refl; other = refl; part = tt }

pub title-facts : (bytes : List ℕ) (p q : Point) (s : Strand) → p.vs ≡ 0 → IsStrand bytes p q s → FurtherFilled s →
    StringFacts bytes n.DefinitionTitleString AsTitle p q (title_recorded (strand_lines s)) (strand_unread s)
    (strand_done bytes s)
title-facts bytes p q s whole is filled =
    let lines : AreLines bytes p q s = strand-lines bytes p q s is in
    string-facts bytes n.DefinitionTitleString AsTitle p q (title_recorded (strand_lines s)) s title-name whole
    (strand-some bytes p q s is) lines
    (strand-sits bytes n.DefinitionTitleString AsTitle p q s refl refl filled lines)
    (λ d. ap (λ (l : List (List ℕ)). DefinitionLeaf (with_title l d)) (recorded-lines bytes p q s whole filled lines))

-- A destination, which is on one line.

target-name : IsString n.DefinitionDestinationString AsDestination
target-name =
    record { records = refl; leaf = λ line r. refl; kind = refl; inside_is = λ text. refl; other = refl; part = tt }

pub target-facts : (bytes : List ℕ) (p q : Point) (text : List ℕ) → p.vs ≡ 0 → text ≢ [] → IsRun bytes text p q →
    StringFacts bytes n.DefinitionDestinationString AsDestination p q (target_recorded text)
    (enter_link n.Data p string_link ∷ exit n.Data q ∷ []) (plain_chunk bytes (record { first = p; after = q }))
target-facts bytes p q text whole some run =
    string-facts bytes n.DefinitionDestinationString AsDestination p q (target_recorded text) (LastLine p q text)
    target-name whole tt (Last p q text some run)
    (line-sits bytes n.DefinitionDestinationString AsDestination p q refl)
    (λ d. ap (λ (l : List ℕ). DefinitionLeaf (target_recorded l d)) (recorded-line bytes text p q whole run))
