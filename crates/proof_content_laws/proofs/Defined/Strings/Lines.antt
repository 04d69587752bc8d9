-- The lines of a text of a definition, one by one: what the chunk of each is.
use Rattle.std.proofs.Common.{◌≡◌, ◌≢◌, ℕ, ◌<◌, Bool, true, false, cond, List, [], ◌∷◌, ◌++◌, slice_range}
use Rattle.std.proofs.Common.{refl, ap, sym, ◌∙◌, subst, subst₂, arith}
use Rattle.std.specs.Prelude.{IsTrue}
use Rattle.std.proofs.lemmas.Bool.{true≢false}
use Rattle.md_engine.specs.declared.event.Event.{Event}
use Rattle.md_engine.specs.declared.event.Name.TheVariants as n
use Rattle.md_engine.specs.declared.event.Point.{Point}
use Rattle.md_meaning.specs.Lines.{without_ending}
use Rattle.md_meaning.proofs.TextsLemmas.{ending_bytes}
use Rattle.md_events.specs.Events.Inline.{line_end, pair_unless_empty}
use Rattle.md_events.specs.Events.Nested.{pair}
use Rattle.md_events.specs.Events.Places.{at_or_before, past_text, same_place}
use Rattle.md_events.proofs.FeedLines.{ending-some, slice-split, IsEnding}
use Rattle.md_events.proofs.InlineLemmas.{same-refl}
use Rattle.md_events.proofs.NestedLemmas.{at_or_before-trans}
use Rattle.md_events.proofs.PlacesLemmas.{apart-later}
use Rattle.proof_frame.proofs.ChunkFacts.{Chunked, chunked-alone, chunked-ended, ending-order, ending-valid}
use Rattle.proof_frame.proofs.ChunkFacts.{line-ending}
use Rattle.proof_content_laws.proofs.Defined.Form.{IsBreak, IsRun, IsStrand, LastLine, NoLine, OneLine, Strand}
use Rattle.proof_content_laws.proofs.Defined.Known.Marks.{run-order, some-long}
use Rattle.proof_frame.proofs.LineTexts.{one-next, without-none, without-one}
use Rattle.proof_frame.proofs.PieceFacts.{Starts, PiecesValid, chunk-valid, is_valid-append, is_valid-unless_empty}

-- These lines of a text, or what is left of it after a line, are from a point to a point. So it is said line by line.
pub data AreLines (bytes : List ℕ) : Point → Point → Strand → Type 0 where
  NoneLeft : (q : Point) → q.vs ≡ 0 → AreLines bytes q q NoLine
  Last : (p q : Point) (text : List ℕ) → text ≢ [] → IsRun bytes text p q → AreLines bytes p q (LastLine p q text)
  More : (p e b r q : Point) (text : List ℕ) (front : List Event) (s : Strand) → IsRun bytes text p e →
      IsBreak bytes e b r front → AreLines bytes r q s →
      AreLines bytes p q (OneLine p e b r text front s)

last-lines : (bytes : List ℕ) (p q a b : Point) (text : List ℕ) → a ≡ p → b ≡ q → text ≢ [] → IsRun bytes text p q →
    AreLines bytes p q (LastLine a b text)
last-lines bytes p q a b text first last some run =
    subst₂ (λ (x y : Point). AreLines bytes p q (LastLine x y text)) (sym first) (sym last) (Last p q text some run)

more-lines : (bytes : List ℕ) (p q a e b r : Point) (text : List ℕ) (front : List Event) (s : Strand) → a ≡ p →
    IsRun bytes text p e → IsBreak bytes e b r front → AreLines bytes r q s →
    AreLines bytes p q (OneLine a e b r text front s)
more-lines bytes p q a e b r text front s first run break more =
    subst (λ (x : Point). AreLines bytes p q (OneLine x e b r text front s)) (sym first)
    (More p e b r q text front s run break more)

none-left : (bytes : List ℕ) (r q : Point) → r ≡ q → q.vs ≡ 0 → AreLines bytes r q NoLine
none-left bytes r q same whole = subst (λ (x : Point). AreLines bytes x q NoLine) (sym same) (NoneLeft q whole)

pub strand-lines : (bytes : List ℕ) (p q : Point) (s : Strand) → IsStrand bytes p q s → AreLines bytes p q s
strand-lines bytes p q NoLine is = absurd is
strand-lines bytes p q (LastLine a b text) is = last-lines bytes p q a b text is.0 is.1 is.2 is.3
strand-lines bytes p q (OneLine a e b r text front NoLine) is =
    more-lines bytes p q a e b r text front NoLine is.0 is.1 is.2 (none-left bytes r q is.3 is.4)
strand-lines bytes p q (OneLine a e b r text front (LastLine c d last)) is =
    more-lines bytes p q a e b r text front (LastLine c d last) is.0 is.1 is.2
    (strand-lines bytes r q (LastLine c d last) is.4)
strand-lines bytes p q (OneLine a e b r text front (OneLine c f d x line next s)) is =
    more-lines bytes p q a e b r text front (OneLine c f d x line next s) is.0 is.1 is.2
    (strand-lines bytes r q (OneLine c f d x line next s) is.4)

-- A run.

-- it ends its chunk, if that has no ending
pub run-end : (bytes text : List ℕ) (p q : Point) → IsRun bytes text p q →
    line_end bytes (record { first = p; after = q }) ≡ q
run-end bytes text p q run =
    ap (λ (l : List ℕ). past_text (without_ending l) p) run.slice
    ∙ ap (λ (l : List ℕ). past_text l p) (without-none text run.no_ending) ∙ sym run.end

pub run-alone : (bytes text : List ℕ) (p q : Point) → text ≢ [] → IsRun bytes text p q → Chunked bytes p q
run-alone bytes text p q some run =
    chunked-alone bytes text p q (some-long text some) run.no_ending run.whole run.size run.slice

-- A run with its ending.

pub ended-slice : (bytes text : List ℕ) (p e b : Point) → IsRun bytes text p e → (ending : IsEnding bytes e b) →
    slice_range bytes p.index b.index ≡ text ++ ending_bytes ending.ending
ended-slice bytes text p e b run ending =
    slice-split bytes p.index e.index b.index (omega (arith, run.size)) (omega (arith, ending.size))
    ∙ ap (λ (l : List ℕ). l ++ slice_range bytes e.index b.index) run.slice
    ∙ ap (λ (l : List ℕ). text ++ l) ending.text

pub ended-end : (bytes text : List ℕ) (p e b : Point) → IsRun bytes text p e → IsEnding bytes e b →
    line_end bytes (record { first = p; after = b }) ≡ e
ended-end bytes text p e b run ending =
    ap (λ (l : List ℕ). past_text (without_ending l) p) (ended-slice bytes text p e b run ending)
    ∙ ap (λ (l : List ℕ). past_text l p) (without-one text ending.ending run.no_ending)
    ∙ sym run.end

pub ended-order : (bytes text : List ℕ) (p e b : Point) → IsRun bytes text p e → IsEnding bytes e b →
    IsTrue (at_or_before p b)
ended-order bytes text p e b run ending =
    at_or_before-trans p e b (run-order bytes text p e run) (ending-order bytes e b ending)

-- an ending alone
ending-alone : (bytes : List ℕ) (p b : Point) → p.vs ≡ 0 → line_end bytes (record { first = p; after = b }) ≡ p →
    IsEnding bytes p b → Chunked bytes p b
ending-alone bytes p b whole end ending = record {
  linked =
      chunk-valid bytes n.Data p b (ending_bytes ending.ending)
      (record { some = grows; whole = ending.whole; slice = ending.text }) refl
      (one-next [] ending.ending tt true);
  read =
      subst (λ (x : Point). PiecesValid bytes (pair_unless_empty n.Data p x ++ pair_unless_empty n.LineEnding x b))
      (sym end)
      (is_valid-append bytes (pair_unless_empty n.Data p p) (pair_unless_empty n.LineEnding p b)
      (is_valid-unless_empty bytes n.Data p p (λ apart. absurd (true≢false (sym (same-refl p) ∙ apart))))
      (is_valid-unless_empty bytes n.LineEnding p b
      (λ apart. ending-valid bytes n.LineEnding p b line-ending whole ending)));
  starts =
      subst (λ (x : Point). Starts (pair_unless_empty n.Data p x ++ pair_unless_empty n.LineEnding x b)) (sym end)
      (go (same_place p p) (same-refl p) (same_place p b) (apart-later p b grows));
}
  where
    grows : p.index < b.index
    grows = let some = ending-some ending.ending in omega (arith, some, ending.size)

    go : (x : Bool) → x ≡ true → (y : Bool) → y ≡ false →
        Starts (cond x [] (pair n.Data p p) ++ cond y [] (pair n.LineEnding p b))
    go true h false k = refl
    go false h y k = cc
    go x h true k = cc

pub run-ended : (bytes text : List ℕ) (p e b r : Point) (front : List Event) → IsRun bytes text p e →
    IsBreak bytes e b r front → Chunked bytes p b
run-ended bytes [] p e b r front run break =
    ending-alone bytes p b (subst (λ (x : Point). x.vs ≡ 0) run.end break.whole)
    (ended-end bytes [] p e b run break.ending ∙ run.end)
    (subst (λ (x : Point). IsEnding bytes x b) run.end break.ending)
run-ended bytes (c ∷ text) p e b r front run break =
    chunked-ended bytes (c ∷ text) p b (omega arith) run.no_ending
    (ap (λ (x : Point). slice_range bytes p.index x.index) (sym run.end) ∙ run.slice)
    (subst (λ (x : Point). IsEnding bytes x b) run.end break.ending)
