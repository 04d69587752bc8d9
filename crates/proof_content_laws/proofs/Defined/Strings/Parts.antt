-- The lines of a text of a definition are the chunks of a part, and are read in their places.
use Rattle.std.proofs.Common.{◌≡◌, ℕ, Bool, true, List, [], ◌∷◌, refl, ap, ◌∙◌, ◌&&◌}
use Rattle.std.specs.Prelude.{IsTrue}
use Rattle.std.proofs.lemmas.Bool.{and_from}
use Rattle.md_engine.specs.declared.event.Point.{Point}
use Rattle.md_meaning.specs.Texts.{split_lines}
use Rattle.md_link_definitions.specs.Chunks.{string_link}
use Rattle.md_events.specs.declared.inline.Chunk.{Chunk}
use Rattle.md_events.specs.Events.Inline.{are_lines, in_order, is_none, is_one_line}
use Rattle.md_events.specs.Events.Places.{at_or_before, same_place}
use Rattle.md_events.specs.Events.Tiles.{begins_at}
use Rattle.md_events.proofs.InlineLemmas.{same-refl}
use Rattle.md_events.proofs.NestedLemmas.{at_or_before-refl}
use Rattle.md_events.proofs.PartsLemmas.{order-from}
use Rattle.proof_content_laws.proofs.Defined.Form.{Strand, strand_chunks, strand_done, strand_unread}
use Rattle.proof_content_laws.proofs.Defined.Strings.Lines.{AreLines, Last, More, NoneLeft, ended-order, ended-slice}
use Rattle.proof_content_laws.proofs.Defined.Strings.Places.{HasLine}
use Rattle.proof_frame.proofs.FrontLemmas.{fronts-order}
use Rattle.proof_frame.proofs.LineTexts.{one-last, one-next}
use Rattle.md_events.specs.declared.inline.PartKind.TheVariants.{String}
use Rattle.proof_frame.proofs.BetweenFacts.{ending-before, ending-following}
use Rattle.proof_frame.proofs.TextInside.{TextInside, text-line, text-more, text-none}
use Rattle.proof_content_laws.proofs.Defined.Strings.Lines.{ended-end, run-alone, run-end, run-ended}
use Rattle.proof_content_laws.proofs.Defined.Known.Marks.{run-order, some-long}

-- what is known of them
pub strand-inside : (bytes : List ℕ) (p q : Point) (s : Strand) → AreLines bytes p q s →
    TextInside bytes String p q (strand_chunks s) (strand_unread s) (strand_done bytes s)
strand-inside bytes q _ _ (NoneLeft _ whole) = text-none bytes String string_link q refl
strand-inside bytes p q _ (Last _ _ text some run) =
    text-line bytes String string_link p q q refl (run-alone bytes text p q some run) (run-order bytes text p q run)
    (run-end bytes text p q run) (λ first last. last)
strand-inside bytes p q _ (More _ e b r _ text front s run break more) =
    text-more
    (text-line bytes String string_link p e b refl (run-ended bytes text p e b r front run break)
    (ended-order bytes text p e b run break.ending) (ended-end bytes text p e b run break.ending)
    (λ first last. ending-before bytes e b break.ending))
    break.front_is (ending-following bytes e b break.ending) (strand-inside bytes r q s more)

-- it begins with the first
pub strand-begins : (bytes : List ℕ) (p q : Point) (s : Strand) → HasLine s → AreLines bytes p q s →
    begins_at p (strand_chunks s) ≡ true
strand-begins bytes q _ _ has (NoneLeft _ whole) = absurd has
strand-begins bytes p q _ has (Last _ _ text some run) = same-refl p
strand-begins bytes p q _ has (More _ e b r _ text front s run break more) = same-refl p

-- each is a line, and so is each but the last with its ending
pub strand-one : (bytes : List ℕ) (p q : Point) (s : Strand) → AreLines bytes p q s →
    are_lines bytes q (strand_chunks s) ≡ true
strand-one bytes q _ _ (NoneLeft _ whole) = refl
strand-one bytes p q _ (Last _ _ text some run) =
    and_from _ _
    (ap (λ (l : List ℕ). is_one_line (split_lines l) (same_place q q)) run.slice
    ∙ one-last text (some-long text some) run.no_ending (same_place q q) (same-refl q))
    refl
strand-one bytes p q _ (More _ e b r _ text front s run break more) =
    let ends : Bool = is_none (strand_chunks s) && same_place b q in
    and_from _ _
    (ap (λ (l : List ℕ). is_one_line (split_lines l) ends) (ended-slice bytes text p e b run break.ending)
    ∙ one-next text break.ending.ending run.no_ending ends)
    (strand-one bytes r q s more)

-- they are one after the other
in-order : (p b : Point) (cs : List Chunk) → IsTrue (at_or_before p b) → in_order b cs ≡ true →
    in_order p ((record { first = p; after = b }) ∷ cs) ≡ true
in-order p b cs h k =
    and_from (at_or_before p p && at_or_before p b) (in_order b cs)
    (and_from (at_or_before p p) (at_or_before p b) (at_or_before-refl p) h) k

pub strand-order : (bytes : List ℕ) (p q : Point) (s : Strand) → AreLines bytes p q s →
    in_order p (strand_chunks s) ≡ true
strand-order bytes q _ _ (NoneLeft _ whole) = refl
strand-order bytes p q _ (Last _ _ text some run) = in-order p q [] (run-order bytes text p q run) refl
strand-order bytes p q _ (More _ e b r _ text front s run break more) =
    in-order p b (strand_chunks s) (ended-order bytes text p e b run break.ending)
    (order-from b r (strand_chunks s) (fronts-order bytes [] b r front break.front_is)
    (strand-order bytes r q s more))
