-- The label of a definition, as its chunks have it.
use Rattle.std.proofs.Common.{◌≡◌, ◌≢◌, ℕ, suc, ◌+◌, Bool, true, false, cond, ◌&&◌, List, [], ◌∷◌, ◌++◌, refl, ap, sym}
use Rattle.std.proofs.Common.{◌∙◌, ap₂, arith, append_assoc, append-nil, slice_range}
use Rattle.std.specs.Prelude.{◌==◌, drop, flat_map}
use Rattle.std.proofs.lemmas.Bool.{or_parts}
use Rattle.std.specs.List.{prefix_len}
use Rattle.md_engine.specs.declared.event.Event.{Event}
use Rattle.md_engine.specs.declared.event.Kind.{Kind}
use Rattle.md_engine.specs.declared.event.Kind.TheVariants.{Enter, Exit}
use Rattle.md_engine.specs.declared.event.Name.{Name}
use Rattle.md_engine.specs.declared.event.Name.TheVariants as n
use Rattle.md_engine.specs.declared.event.Point.{Point}
use Rattle.md_content.specs.Labels.{is_label, label_text}
use Rattle.md_meaning.specs.Label.{normal_form, words}
use Rattle.md_meaning.specs.Lines.{begins_with}
use Rattle.md_meaning.specs.Rest.{is_blank, is_white, trim_start}
use Rattle.md_meaning.specs.Texts.{split_lines, trim_each, trim_further}
use Rattle.md_meaning.proofs.TextsLemmas.{Ending, IsOfLines, NoEnding, ending_bytes}
use Rattle.md_meaning.proofs.TextsLemmas.{split-lines}
use Rattle.md_link_definitions.specs.Chunks.{string_link}
use Rattle.md_events.specs.Events.Nested.{enter_link, exit, is_enter, is_exit}
use Rattle.md_events.specs.Events.Prefix.{is_prefix}
use Rattle.md_events.specs.Events.Tiles.{is_data}
use Rattle.md_events.proofs.FeedLines.{slice-split}
use Rattle.proof_content_laws.proofs.Defined.Form.{IsBreak, IsFilled, IsRun, IsStrand, LastLine, NoLine, OneLine}
use Rattle.proof_content_laws.proofs.Defined.Form.{Strand, strand_lines, strand_unread}
use Rattle.proof_frame.proofs.FrontNames.{fronts-prefixes}
use Rattle.proof_frame.proofs.ParagraphLines.{ends-before}
use Rattle.proof_frame.proofs.PrefixNames.{ArePrefixes}

-- Words.

words-white : (b : ℕ) (bs : List ℕ) → is_white b ≡ true → words (b ∷ bs) ≡ words bs
words-white b bs e = rw e refl

-- whitespace before a line parts no words
words-trimmed : (line : List ℕ) → words (trim_start line) ≡ words line
words-trimmed [] = refl
words-trimmed (b ∷ bs) = go (is_white b) refl (words-trimmed bs)
  where
    go : (x : Bool) → is_white b ≡ x → words (trim_start bs) ≡ words bs → words (trim_start (b ∷ bs)) ≡ words (b ∷ bs)
    go true e more =
        let n : ℕ = prefix_len is_white bs in
        let next : 1 + n ≡ suc n = omega arith in
        ap (λ (x : Bool). words (drop (cond x (1 + n) 0) (b ∷ bs))) e
        ∙ ap (λ (k : ℕ). words (drop k (b ∷ bs))) next
        ∙ more ∙ sym (words-white b bs e)
    go false e more =
        ap (λ (x : Bool). words (drop (cond x (1 + prefix_len is_white bs) 0) (b ∷ bs))) e

words-each : (lines : List (List ℕ)) → flat_map words (trim_each lines) ≡ flat_map words lines
words-each [] = refl
words-each (line ∷ lines) =
    ap (λ (l : List (List ℕ)). l ++ flat_map words (trim_each lines)) (words-trimmed line)
    ∙ ap (λ (l : List (List ℕ)). words line ++ l) (words-each lines)

-- so its normal form is that of its lines as they are
pub normal-trimmed : (lines : List (List ℕ)) → normal_form (trim_further lines) ≡ normal_form lines
unfolding normal_form
normal-trimmed [] = refl
normal-trimmed (line ∷ lines) = rw (words-each lines) refl

-- Chunks.

-- prefixes show nothing of a label
pub prefix-label : (name : Name) → is_prefix name ≡ true → (is_label name ≡ false) × (is_data name ≡ false)
prefix-label n.DefinitionLabelString h = cc
prefix-label n.Data h = cc
prefix-label _ h = (refl, refl)

skipped : (bytes : List ℕ) (e f : Event) (es : List Event) → is_label e.name ≡ false → is_data e.name ≡ false →
    label_text bytes (e ∷ f ∷ es) ≡ label_text bytes (f ∷ es)
skipped bytes e f es h k = go e.kind
  where
    go : (kind : Kind) →
        cond (is_exit kind && is_label e.name) []
        (cond (is_enter kind && is_data e.name)
        (slice_range bytes e.point.index f.point.index ++ label_text bytes (f ∷ es)) (label_text bytes (f ∷ es))) ≡
        label_text bytes (f ∷ es)
    go Enter = rw k refl
    go Exit = rw h refl

fronts-skipped : (bytes : List ℕ) (front : List Event) (f : Event) (es : List Event) → ArePrefixes front →
    label_text bytes (front ++ f ∷ es) ≡ label_text bytes (f ∷ es)
fronts-skipped bytes [] f es h = refl
fronts-skipped bytes (e ∷ []) f es h =
    let names = prefix-label e.name h.0.0 in skipped bytes e f es names.0 names.1
fronts-skipped bytes (e ∷ g ∷ front) f es h =
    let names = prefix-label e.name h.0.0 in
    skipped bytes e g (front ++ f ∷ es) names.0 names.1 ∙ fronts-skipped bytes (g ∷ front) f es h.1

-- What is in a label's chunks, up to its end.
pub record Recorded (bytes : List ℕ) (s : Strand) : Type 0 where
  pub text : List ℕ
  pub is : (q : Point) (more : List Event) →
      label_text bytes (strand_unread s ++ exit n.DefinitionLabelString q ∷ more) ≡ text
  pub lines : IsOfLines (strand_lines s) text
  pub begins : IsFilled s → begins_with 10 text ≡ false

some-begins : (text rest : List ℕ) → text ≢ [] → NoEnding text → begins_with 10 (text ++ rest) ≡ false
some-begins [] rest some none = absurd (some refl)
some-begins (b ∷ bs) rest some none = (or_parts (b == 10) (b == 13) none.0).0

-- the end of a label ends its text
label-ended : (bytes : List ℕ) (q : Point) (more : List Event) →
    label_text bytes (exit n.DefinitionLabelString q ∷ more) ≡ []
label-ended bytes q [] = refl
label-ended bytes q (e ∷ more) = refl

-- its events begin with one
begins-with : (s : Strand) (q : Point) (more : List Event) →
    (f : Event) × (es : List Event) × (strand_unread s ++ exit n.DefinitionLabelString q ∷ more ≡ f ∷ es)
begins-with NoLine q more = (exit n.DefinitionLabelString q, more, refl)
begins-with (LastLine a b text) q more =
    (enter_link n.Data a string_link, exit n.Data b ∷ exit n.DefinitionLabelString q ∷ more, refl)
begins-with (OneLine a e b r text front s) q more = (
  enter_link n.Data a string_link,
  exit n.Data b ∷ (front ++ strand_unread s) ++ exit n.DefinitionLabelString q ∷ more,
  refl,
)

-- after a chunk, prefixes show nothing
chunk-ended : (bytes : List ℕ) (b : Point) (front : List Event) (f : Event) (es : List Event) → ArePrefixes front →
    label_text bytes (exit n.Data b ∷ front ++ f ∷ es) ≡ label_text bytes (f ∷ es)
chunk-ended bytes b [] f es h = refl
chunk-ended bytes b (e ∷ front) f es h = fronts-skipped bytes (e ∷ front) f es h

-- a line before others
line-recorded : (bytes : List ℕ) (p a e b r : Point) (text : List ℕ) (front : List Event) (s : Strand) → a ≡ p →
    IsRun bytes text p e → IsBreak bytes e b r front → IsFilled s → Recorded bytes s →
    Recorded bytes (OneLine a e b r text front s)
line-recorded bytes p a e b r text front s first run break filled below = record {
  text = text ++ ending_bytes ending ++ below.text;
  is = λ end more. let rest : List Event = exit n.DefinitionLabelString end ∷ more in
      let begin = begins-with s end more in
      ap (λ (l : List Event). slice_range bytes a.index b.index ++ label_text bytes (exit n.Data b ∷ l))
      (append_assoc front (strand_unread s) rest ∙ ap (λ (l : List Event). front ++ l) begin.2)
      ∙ ap₂ (λ (x y : List ℕ). x ++ y) slice
      (chunk-ended bytes b front begin.0 begin.1 (fronts-prefixes bytes [] b r front refl break.front_is)
      ∙ ap (label_text bytes) (sym begin.2) ∙ below.is end more);
  lines = lines s below.lines;
  begins = λ some.
      ap (begins_with 10) (append_assoc text (ending_bytes ending) below.text)
      ∙ some-begins text (ending_bytes ending ++ below.text)
      (λ e. let bad : true ≡ false = sym (ap is_blank e) ∙ some in cc) run.no_ending;
}
  where
    ending : Ending
    ending = break.ending.ending

    slice : slice_range bytes a.index b.index ≡ text ++ ending_bytes ending
    slice =
        ap (λ (x : Point). slice_range bytes x.index b.index) first
        ∙ slice-split bytes p.index e.index b.index (omega (arith, run.size)) (omega (arith, break.ending.size))
        ∙ ap₂ (λ (x y : List ℕ). x ++ y) run.slice break.ending.text

    lines : (s : Strand) → IsOfLines (strand_lines s) below.text →
        IsOfLines (text ∷ strand_lines s) (text ++ ending_bytes ending ++ below.text)
    lines NoLine h = (run.no_ending, (ending, below.text, ends-before ending below.text (below.begins filled), refl, h))
    lines (LastLine c d last) h =
        (run.no_ending, (ending, below.text, ends-before ending below.text (below.begins filled), refl, h))
    lines (OneLine c d f g next prefix s) h =
        (run.no_ending, (ending, below.text, ends-before ending below.text (below.begins filled), refl, h))

pub strand-recorded : (bytes : List ℕ) (p q : Point) (s : Strand) → IsStrand bytes p q s → Recorded bytes s
strand-recorded bytes p q NoLine is = absurd is
strand-recorded bytes p q (LastLine a b text) is = record {
  text = text;
  is = λ end more.
      ap (λ (l : List ℕ). l ++ label_text bytes (exit n.Data b ∷ exit n.DefinitionLabelString end ∷ more))
      (ap₂ (λ (x y : Point). slice_range bytes x.index y.index) is.0 is.1 ∙ is.3.slice)
      ∙ ap (λ (l : List ℕ). text ++ l) (label-ended bytes end more)
      ∙ append-nil text;
  lines = (is.3.no_ending, refl);
  begins = λ filled. ap (begins_with 10) (sym (append-nil text)) ∙ some-begins text [] is.2 is.3.no_ending;
}
strand-recorded bytes p q (OneLine a e b r text front NoLine) is =
    line-recorded bytes p a e b r text front NoLine is.0 is.1 is.2 tt (record {
      text = [];
      is = λ end more. label-ended bytes end more;
      lines = (tt, refl);
      begins = λ filled. refl;
    })
strand-recorded bytes p q (OneLine a e b r text front (LastLine c d last)) is =
    line-recorded bytes p a e b r text front (LastLine c d last) is.0 is.1 is.2 is.3
    (strand-recorded bytes r q (LastLine c d last) is.4)
strand-recorded bytes p q (OneLine a e b r text front (OneLine c d f g next prefix s)) is =
    line-recorded bytes p a e b r text front (OneLine c d f g next prefix s) is.0 is.1 is.2 is.3
    (strand-recorded bytes r q (OneLine c d f g next prefix s) is.4)

-- The normal form of a label is that of its lines.
pub label-normal : (bytes : List ℕ) (p q : Point) (s : Strand) → IsStrand bytes p q s → (end : Point)
    (more : List Event) →
    normal_form (split_lines (label_text bytes (strand_unread s ++ exit n.DefinitionLabelString end ∷ more))) ≡
    normal_form (trim_further (strand_lines s))
label-normal bytes p q s is end more =
    let recorded : Recorded bytes s = strand-recorded bytes p q s is in
    ap (λ (l : List ℕ). normal_form (split_lines l)) (recorded.is end more)
    ∙ ap normal_form (split-lines (strand_lines s) recorded.text recorded.lines)
    ∙ sym (normal-trimmed (strand_lines s))
