-- What single events of a text part tell, and what is claimed of those that follow.
use Rattle.std.proofs.Common.{◌≡◌, ℕ, suc, ◌+◌, ◌≤◌, Bool, true, false, cond, not, ◌&&◌, List, [], ◌∷◌}
use Rattle.std.proofs.Common.{◌++◌, refl, ap, sym, ◌∙◌, arith}
use Rattle.std.proofs.Common.{append-nil}
use Rattle.std.specs.Prelude.{◌==◌, Option, Some, None}
use Rattle.std.proofs.lemmas.Bool.{and_parts, both_ways, cond-false, eqb-true, not-true}
use Rattle.std.proofs.lemmas.Bool.Decides.{nat_tests}
use Rattle.md_engine.specs.declared.event.Event.{Event}
use Rattle.md_engine.specs.declared.event.Kind.{Kind}
use Rattle.md_engine.specs.declared.event.Kind.TheVariants.{Enter, Exit}
use Rattle.md_engine.specs.declared.event.Name.{Name}
use Rattle.md_engine.specs.declared.event.Point.{Point}
use Rattle.md_meaning.specs.Texts.{split_lines, trim_each}
use Rattle.md_events.specs.declared.inline.Chunk.{Chunk}
use Rattle.md_events.specs.Events.Inline.{Part, is_linked}
use Rattle.md_events.specs.Events.Nested.{is_exit}
use Rattle.md_events.specs.Events.Places.{at_or_before, same_place}
use Rattle.md_events.specs.Events.Prefix.{is_prefix}
use Rattle.md_events.specs.Events.Spelled.{AsCell, AsHeading, AsParagraph, IsQuiet, IsQuoteMarker}
use Rattle.md_events.specs.Events.Spelled.{Role, Text, TextRole, begun, byte_at, role}
use Rattle.md_events.specs.Events.Spelled.{text_to}
use Rattle.md_events.specs.Events.Tiles.{chunks_in_parts, depth_following, is_chunk}
use Rattle.md_events.specs.Events.Tiles.{is_data, is_part}
use Rattle.md_events.specs.Events.Tiles.{may_be_in_part, parts}
use Rattle.md_events.proofs.PlacesLemmas.{Some_line, some-split}
use Rattle.md_inline_events.specs.Woven.{read_chunks}
use Rattle.md_inline_events.specs.TreeTexts.{cell_text, joined, lines_text, part_texts}
use Rattle.proof_inlines.proofs.Checks.{implied}
use Rattle.proof_inlines.proofs.GrammarWalk.{following_state}
use Rattle.proof_inlines.proofs.LineTexts.{text_read}
use Rattle.proof_inlines.proofs.Nearby.{is_pair}
use Rattle.proof_inlines.proofs.PartSteps.{left, left-next, parts-next}
use Rattle.proof_inlines.proofs.Phases.{PartSort, Phase}
use Rattle.proof_inlines.proofs.Phases.{data-no_prefix, entered_by, exited_by, inner-no_part}
use Rattle.proof_inlines.proofs.Phases.{is_inner, is_told, part_sort, phases}
use Rattle.proof_inlines.proofs.ReadSteps.{Gone, IsSome}
use Rattle.proof_inlines.proofs.Told.{text_following, told, told_by}

-- Points.

pub index-same : (p q : Point) → same_place p q ≡ true → p.index ≡ q.index
index-same p q h = eqb-true p.index q.index (and_parts (p.index == q.index) (p.vs == q.vs) h).0

pub byte-same : (p q : Point) → same_place p q ≡ true → byte_at p ≡ byte_at q
byte-same p q h =
    let two : ((p.index == q.index) ≡ true) × ((p.vs == q.vs) ≡ true) =
    and_parts (p.index == q.index) (p.vs == q.vs) h in
    ap (λ (v : ℕ). cond (v == 0) p.index (p.index + 1)) (eqb-true p.vs q.vs two.1)
    ∙ ap (λ (i : ℕ). cond (q.vs == 0) i (i + 1)) (eqb-true p.index q.index two.0)

pub index-before : (p q : Point) → at_or_before p q ≡ true → p.index ≤ q.index
index-before p q h = grind (arith, nat_tests)

pub byte-before : (p q : Point) → at_or_before p q ≡ true → byte_at p ≤ byte_at q
byte-before p q h = go (p.vs == 0) refl (q.vs == 0) refl
  where
    less : (p.vs == 0) ≡ false → (q.vs == 0) ≡ true → p.index + 1 ≤ q.index
    less e f = grind (arith, nat_tests)

    go : (a : Bool) → (p.vs == 0) ≡ a → (b : Bool) → (q.vs == 0) ≡ b →
        cond a p.index (p.index + 1) ≤ cond b q.index (q.index + 1)
    go true e true f = index-before p q h
    go true e false f = let le : p.index ≤ q.index = index-before p q h in omega (arith, le)
    go false e true f = less e f
    go false e false f = let le : p.index ≤ q.index = index-before p q h in omega (arith, le)

pub byte-after : (p : Point) → p.index ≤ byte_at p
byte-after p = go (p.vs == 0)
  where
    go : (a : Bool) → p.index ≤ cond a p.index (p.index + 1)
    go true = omega arith
    go false = omega arith

-- Kinds and sorts of an event.

pub pair-enter : (kind : Kind) → is_pair kind Enter ≡ false
pair-enter Enter = refl
pair-enter Exit = refl

pub enter-state : (kind : Kind) (name : Name) (s : Phase) (sort : PartSort) → kind ≡ Enter → part_sort name ≡ sort →
    following_state phases kind name s ≡ entered_by sort s
enter-state Enter name s sort e f = ap (λ (a : PartSort). entered_by a s) f
enter-state Exit name s sort e f = cc

pub exit-state : (kind : Kind) (name : Name) (s : Phase) (sort : PartSort) → kind ≡ Exit → part_sort name ≡ sort →
    following_state phases kind name s ≡ exited_by sort s
exit-state Exit name s sort e f = ap (λ (a : PartSort). exited_by a s) f
exit-state Enter name s sort e f = cc

pub inner-apart : (name : Name) (sort : PartSort) → part_sort name ≡ sort → is_inner sort ≡ true → is_part name ≡ false
inner-apart name sort e h =
    not-true (is_part name)
    (implied (is_inner (part_sort name)) (not (is_part name)) (inner-no_part name) (ap is_inner e ∙ h))

-- Roles.

pub quiet-told : (bytes : List ℕ) (kind : Kind) (x : Role) (p : Point) (text : Option Text) → x ≡ IsQuiet →
    (told_by bytes kind x p text ≡ []) × (text_following bytes kind x p text ≡ text)
quiet-told bytes kind x p text e = (
  ap (λ (y : Role). told_by bytes kind y p text) e ∙ none kind,
  ap (λ (y : Role). text_following bytes kind y p text) e ∙ same kind,
)
  where
    none : (kind : Kind) → told_by bytes kind IsQuiet p text ≡ []
    none Enter = refl
    none Exit = refl

    same : (kind : Kind) → text_following bytes kind IsQuiet p text ≡ text
    same Enter = refl
    same Exit = refl

pub marker-told : (bytes : List ℕ) (kind : Kind) (x : Role) (p : Point) (text : Option Text) → x ≡ IsQuoteMarker →
    (told_by bytes kind x p text ≡ []) × (text_following bytes kind x p text ≡ text)
marker-told bytes kind x p text e = (
  ap (λ (y : Role). told_by bytes kind y p text) e ∙ none kind,
  ap (λ (y : Role). text_following bytes kind y p text) e ∙ same kind,
)
  where
    none : (kind : Kind) → told_by bytes kind IsQuoteMarker p text ≡ []
    none Enter = refl
    none Exit = refl

    same : (kind : Kind) → text_following bytes kind IsQuoteMarker p text ≡ text
    same Enter = refl
    same Exit = refl

-- nothing is told but where a text of the tree ends
pub none-told : (bytes : List ℕ) (kind : Kind) (x : Role) (p : Point) (text : Option Text) → is_told x ≡ false →
    told_by bytes kind x p text ≡ []
none-told bytes Enter (TextRole AsParagraph) p text h = refl
none-told bytes Enter _ p text h = refl
none-told bytes Exit (TextRole AsParagraph) p text h = cc
none-told bytes Exit (TextRole AsHeading) p text h = cc
none-told bytes Exit (TextRole AsCell) p text h = cc
none-told bytes Exit (TextRole purpose) p None h = refl
none-told bytes Exit (TextRole purpose) p (Some text) h = refl
none-told bytes Exit _ p text h = refl

pub enter-told : (bytes : List ℕ) (kind : Kind) (x : Role) (p : Point) (text : Option Text) → kind ≡ Enter →
    told_by bytes kind x p text ≡ []
enter-told bytes Enter (TextRole purpose) p text e = refl
enter-told bytes Enter _ p text e = refl
enter-told bytes Exit x p text e = cc

pub enter-text : (bytes : List ℕ) (kind : Kind) (x : Role) (p : Point) (text : Option Text) → kind ≡ Enter →
    is_told x ≡ true → text_following bytes kind x p text ≡ Some (begun p)
enter-text bytes Enter (TextRole purpose) p text e h = refl
enter-text bytes Enter _ p text e h = cc
enter-text bytes Exit x p text e h = cc

pub lines-told : (text : List ℕ) → lines_text (trim_each (split_lines text)) ≡ text_read text ∷ []
lines-told text = go (split_lines text) (some-split text)
  where
    go : (lines : List (List ℕ)) → Some_line lines → lines_text (trim_each lines) ≡ joined (trim_each lines) ∷ []
    go [] some = absurd some
    go (line ∷ lines) some = refl

pub cell-told : (text : List ℕ) → IsSome text → cell_text text ≡ text_read text ∷ []
cell-told [] some = absurd some
cell-told (b ∷ text) some = lines-told (b ∷ text)

-- what is told where a text of the tree ends is what is read
pub exit-told : (bytes : List ℕ) (kind : Kind) (x : Role) (p : Point) (text : Text) (read : List ℕ) → kind ≡ Exit →
    is_told x ≡ true → Gone (text_to bytes p.index text) read → told_by bytes kind x p (Some text) ≡ read ∷ []
exit-told bytes Enter x p text read e h gone = cc
exit-told bytes Exit x p text read e h gone = go x h
  where
    now : List ℕ
    now = text_to bytes p.index text

    is : text_read now ≡ read
    is = sym (ap text_read (append-nil now)) ∙ gone.0 [] refl

    go : (x : Role) → is_told x ≡ true → told_by bytes Exit x p (Some text) ≡ read ∷ []
    go (TextRole AsParagraph) h = lines-told now ∙ ap (λ (l : List ℕ). l ∷ []) is
    go (TextRole AsHeading) h = lines-told now ∙ ap (λ (l : List ℕ). l ∷ []) is
    go (TextRole AsCell) h = cell-told now gone.1 ∙ ap (λ (l : List ℕ). l ∷ []) is
    go _ h = cc

-- What is claimed.

abbrev pub Claim : List ℕ → Text → List ℕ → List Event → Type 0
Claim bytes text read es =
    told bytes (Some text) es ≡ (read ++ read_chunks bytes true true (left es)) ∷ part_texts bytes (parts es)

-- where the text goes on over an event
pub told-over : (bytes : List ℕ) (text : Option Text) (next : Option Text) (e : Event) (es : List Event) →
    told_by bytes e.kind (role e.name) e.point text ≡ [] →
    text_following bytes e.kind (role e.name) e.point text ≡ next → told bytes text (e ∷ es) ≡ told bytes next es
told-over bytes text next e es none same =
    ap
    (λ (l : List (List ℕ)). l ++ told bytes (text_following bytes e.kind (role e.name) e.point text) es)
    none
    ∙ ap (λ (t : Option Text). told bytes t es) same

pub claim-over : (bytes : List ℕ) (text next : Text) (read : List ℕ) (e : Event) (es : List Event) →
    is_part e.name ≡ false → is_linked e ≡ false → told_by bytes e.kind (role e.name) e.point (Some text) ≡ [] →
    text_following bytes e.kind (role e.name) e.point (Some text) ≡ Some next → Claim bytes next read es →
    Claim bytes text read (e ∷ es)
claim-over bytes text next read e es apart unlinked none same claim =
    told-over bytes (Some text) (Some next) e es none same
    ∙ claim
    ∙ ap (λ (cs : List Chunk). (read ++ read_chunks bytes true true cs) ∷ part_texts bytes (parts es))
    (sym (left-next e es apart unlinked))
    ∙ ap (λ (ps : List Part). (read ++ read_chunks bytes true true (left (e ∷ es))) ∷ part_texts bytes ps)
    (sym (parts-next e es apart))

-- Depths.

pub inside-depth : (depth : ℕ) (e : Event) (es : List Event) → chunks_in_parts (suc depth) (e ∷ es) ≡ true →
    is_part e.name ≡ false →
    (cond (is_linked e) ((depth == 0) && is_chunk e es) (may_be_in_part e.kind e.name) ≡ true)
    × (chunks_in_parts (depth_following e.kind (suc depth)) es ≡ true)
inside-depth depth e es h apart =
    let here : Bool = cond (is_linked e) ((depth == 0) && is_chunk e es) (may_be_in_part e.kind e.name) in
    let after : Bool = chunks_in_parts (depth_following e.kind (suc depth)) es in
    and_parts here after
    (sym (cond-false (is_part e.name)
    (is_exit e.kind && (depth == 0) && not (is_linked e) && chunks_in_parts 0 es) (here && after) apart) ∙ h)

pub depth-enter : (kind : Kind) (depth : ℕ) → kind ≡ Enter → depth_following kind depth ≡ suc depth
depth-enter Enter depth e = refl
depth-enter Exit depth e = cc

pub depth-exit : (kind : Kind) (depth : ℕ) → kind ≡ Exit → depth_following kind (suc depth) ≡ depth
depth-exit Exit depth e = refl
depth-exit Enter depth e = cc

-- deeper in a part nothing is linked
pub deeper-unlinked : (depth : ℕ) (e : Event) (es : List Event) → (depth == 0) ≡ false →
    cond (is_linked e) ((depth == 0) && is_chunk e es) (may_be_in_part e.kind e.name) ≡ true → is_linked e ≡ false
deeper-unlinked depth e es deep h = go (is_linked e) h
  where
    go : (b : Bool) → cond b ((depth == 0) && is_chunk e es) (may_be_in_part e.kind e.name) ≡ true → b ≡ false
    go true h = let no_chunk : (depth == 0) && is_chunk e es ≡ false = ap (λ (t : Bool). t && is_chunk e es) deep in cc
    go false h = refl

-- nor is what is no chunk
pub other-unlinked : (e : Event) (es : List Event) → is_data e.name ≡ false →
    cond (is_linked e) (true && is_chunk e es) (may_be_in_part e.kind e.name) ≡ true → is_linked e ≡ false
other-unlinked e es other h = go (is_linked e) h (chunk-is es)
  where
    chunk-is : (es : List Event) → is_chunk e es ≡ true → is_data e.name ≡ true
    chunk-is [] k = cc
    chunk-is (f ∷ es) k =
        let a = and_parts (not (is_exit e.kind) && is_data e.name && is_exit f.kind) (is_data f.name) k in
        let b = and_parts (not (is_exit e.kind) && is_data e.name) (is_exit f.kind) a.0 in
        (and_parts (not (is_exit e.kind)) (is_data e.name) b.0).1

    go : (b : Bool) → cond b (is_chunk e es) (may_be_in_part e.kind e.name) ≡ true →
        (is_chunk e es ≡ true → is_data e.name ≡ true) → b ≡ false
    go true h is = let called : is_data e.name ≡ true = is h in cc
    go false h is = refl

-- and a chunk is
pub data-linked : (e : Event) (es : List Event) → e.kind ≡ Enter → is_data e.name ≡ true →
    cond (is_linked e) (true && is_chunk e es) (may_be_in_part e.kind e.name) ≡ true →
    (is_linked e ≡ true) × (is_chunk e es ≡ true)
data-linked e es enters called h = go (is_linked e) refl h
  where
    may : (kind : Kind) → kind ≡ Enter → may_be_in_part kind e.name ≡ is_prefix e.name
    may Enter e = refl
    may Exit e = cc

    go : (b : Bool) → is_linked e ≡ b → cond b (is_chunk e es) (may_be_in_part e.kind e.name) ≡ true →
        (is_linked e ≡ true) × (is_chunk e es ≡ true)
    go true f h = (f, h)
    go false f h =
        let prefix : is_prefix e.name ≡ true = sym (may e.kind enters) ∙ h in
        let other : not (is_prefix e.name) ≡ true =
        implied (is_data e.name) (not (is_prefix e.name)) (data-no_prefix e.name) called in
        absurd (both_ways (is_prefix e.name) (not-true (is_prefix e.name) other) prefix)
