-- What is known of the events before the lines of a text: its mark, its frontmatter, and the ending after that.
use Rattle.std.proofs.Common.{◌≡◌, ℕ, ◌≤◌, Bool, true, false, cond, ◌||◌, List, [], ◌∷◌, ◌++◌}
use Rattle.std.proofs.Common.{length, map, Option, Some, None, refl, sym, ◌∙◌, ap, subst, arith, append_assoc}
use Rattle.std.proofs.Common.{append-nil, ap₂, nat_lt, slice_range, take}
use Rattle.std.specs.Prelude.{option_map}
use Rattle.std.specs.List.{list_any}
use Rattle.std.proofs.lemmas.Bool.{or_left, or_right}
use Rattle.std.proofs.lemmas.List.{length-drop}
use Rattle.md_engine.specs.declared.event.Event.{Event}
use Rattle.md_engine.specs.declared.event.Name.TheVariants as n
use Rattle.md_engine.specs.declared.event.Point.{Point}
use Rattle.md_engine.specs.Place.{first_point}
use Rattle.md_containers.specs.Unlisted.{keeps_unlisted, unlisted_left}
use Rattle.md_containers.proofs.UnlistedLemmas.{ItemsLead, Unlists, among, valid-append, unlists-append}
use Rattle.md_containers.proofs.UnlistedLemmas.{unlists-rest, unlists-same}
use Rattle.md_meaning.specs.Preamble.{has_mark}
use Rattle.md_meaning.specs.Texts.{first_byte}
use Rattle.md_meaning.specs.Tree.{Block, Blocks, End, Frontmatter, Line, More}
use Rattle.md_meaning.proofs.PreambleLemmas.{mark-bytes}
use Rattle.md_outline.specs.Between.{is_between}
use Rattle.md_outline.proofs.FrontPass.{passes-front}
use Rattle.md_events.specs.Events.Endings.{endings_are_right, endings_are_right_from, line_start}
use Rattle.md_events.specs.Events.Grammar.{Expression, Never, Nothing, Then, following, after_block, blocks, is_whole}
use Rattle.md_events.specs.Events.Grammar.{one, or_else, plain_text, unread_text}
use Rattle.md_events.specs.Events.Nested.{around, exit, pair}
use Rattle.md_events.specs.Events.Spelled.{OfFrontmatter, OpenLeaf, Reading, Text, add_block, at_ending, block_of}
use Rattle.md_events.specs.Events.Spelled.{fresh, next_line, on_leaf, read, unread}
use Rattle.md_events.proofs.EndingsLemmas.{Leads, following_leaf, leads-append, leaf-leads}
use Rattle.md_events.proofs.GrammarLemmas as grammar
use Rattle.md_events.proofs.GrammarLemmas.{leads-around}
use Rattle.md_events.proofs.SpelledLemmas.{read-from, read-quiet}
use Rattle.proof_leaf_laws.specs.Front.{mark_end, mark_events, mark_point}
use Rattle.proof_frame.proofs.BetweenFacts.{AreBetween, between-end, ending-before, ending-following}
use Rattle.proof_leaf_laws.proofs.Frontmatter.Found.{AtEnd, Ended, Tail}
use Rattle.proof_leaf_laws.proofs.Frontmatter.Lines.{IsFront, front-fills, front-inside}
use Rattle.proof_leaf_laws.proofs.Frontmatter.Parts.{front_leaf, text_line}
use Rattle.proof_frame.proofs.LeafAllowed.{around-unlisted, between-are_valid, leaf-valid}
use Rattle.proof_frame.proofs.IndentRemoved.Shown.{whole-clear}
use Rattle.proof_leaf_laws.proofs.MarkLemmas.{between-mark, body-between, body-vs}
use Rattle.proof_frame.proofs.PartedFacts.{clear}
use Rattle.proof_frame.proofs.PieceFacts.{Starts, over-valid}
use Rattle.proof_frame.proofs.PlainFacts.{ArePlain, known-around, plain-append, plain-nil, plain-quiet, plain-untold}
use Rattle.md_events.proofs.FeedLines.{IsEnding}
use Rattle.proof_frame.proofs.EndingFacts.{stretch-ended}
use Rattle.proof_frame.proofs.EventNames.{NoContainer, part-no_container}
use Rattle.proof_frame.proofs.Stretch.{Stretch, stretch-append, stretch-around, stretch-as, stretch-none, stretch-pair}

-- Events before the lines, from a point to a point, whatever they are read as.
pub record FrontPart (bytes : List ℕ) (p q : Point) (es : List Event) : Type 0 where
  pub stretch : Stretch NoContainer bytes p q es es
  pub first : is_between bytes p.index ≡ true
  pub last : is_between bytes q.index ≡ true
  pub valid : ItemsLead bytes (among []) (among []) es
  pub plain : ArePlain bytes es

-- it is between characters
pub part-between : (bytes : List ℕ) (p q : Point) (es : List Event) → FrontPart bytes p q es → AreBetween bytes es
part-between bytes p q es h = h.stretch.between h.first h.last

pub part-none : (bytes : List ℕ) (p : Point) → is_between bytes p.index ≡ true → FrontPart bytes p p []
part-none bytes p first = record {
  stretch = stretch-none NoContainer bytes p;
  first = first;
  last = first;
  valid = record { are_valid = tt; following = refl };
  plain = plain-nil bytes;
}

pub part-append : (bytes : List ℕ) (p q r : Point) (xs ys : List Event) → FrontPart bytes p q xs →
    FrontPart bytes q r ys → FrontPart bytes p r (xs ++ ys)
part-append bytes p q r xs ys h k = record {
  stretch = stretch-append h.stretch k.stretch (λ first last. h.last);
  first = h.first;
  last = k.last;
  valid = valid-append bytes (among []) (among []) (among []) xs ys h.valid k.valid;
  plain = plain-append bytes xs ys h.plain k.plain;
}

-- The ending after frontmatter.
ending-part : (bytes : List ℕ) (p q : Point) → p.vs ≡ 0 → is_between bytes p.index ≡ true →
    is_between bytes q.index ≡ true → IsEnding bytes p q → FrontPart bytes p q (pair n.LineEnding p q)
ending-part bytes p q whole first last is = record {
  stretch = stretch-ended NoContainer bytes false p q tt tt whole is;
  first = first;
  last = last;
  valid = between-are_valid bytes [] (pair n.LineEnding p q) (tt, (tt, tt));
  plain = plain-untold bytes (pair n.LineEnding p q) ((refl, refl), ((refl, refl), tt));
}

-- Frontmatter.
front-part : (bytes : List ℕ) (p : Point) (texts : List (List ℕ)) (es : List Event) (z : Point) →
    clear bytes p ≡ true → is_between bytes p.index ≡ true → is_between bytes z.index ≡ true →
    IsFront bytes p texts es z → FrontPart bytes p z (around n.Frontmatter p z es)
front-part bytes p texts es z free first last is =
    let h = front-inside bytes p texts es z is in
    let starts : Starts es = subst Starts (sym is.all) refl in
    record {
      stretch =
          stretch-around n.Frontmatter (record { role_is = tt; no_part = refl; still = tt }) starts starts
          (stretch-as part-no_container h.parts.stretch);
      first = first;
      last = last;
      valid = leaf-valid bytes [] n.Frontmatter OfFrontmatter p z es refl h.parts.stretch.roles;
      plain = record {
        known = known-around bytes n.Frontmatter p z es refl refl refl (h.plain free).known;
        lines = passes-front bytes p z es (h.plain free).lines;
      };
    }

-- it is read as its block
front-reads : (bytes : List ℕ) (p : Point) (texts : List (List ℕ)) (es : List Event) (z : Point) →
    (is : IsFront bytes p texts es z) → (r : Reading) → r.text ≡ None → r.leaf ≡ None →
    read bytes r (around n.Frontmatter p z es) ≡ add_block (Frontmatter is.m texts) r
front-reads bytes p texts es z is r none shut =
    let h = front-inside bytes p texts es z is in
    let to = front_leaf (take 3 is.line) (map text_line texts) true in
    read-from bytes (record r { leaf = Some (fresh OfFrontmatter) }) (record r { leaf = Some to }) es
    (exit n.Frontmatter z ∷ []) (h.parts.reads (record r { leaf = Some (fresh OfFrontmatter) }) none refl)
    ∙ ap (λ (o : Option OpenLeaf). add_block (block_of to) (record r { leaf = o })) (sym shut)
    ∙ ap (λ (b : Block). add_block b r)
    (ap₂ Frontmatter (ap first_byte is.opens.markers) (texts-same texts))
  where
    texts-same : (ls : List (List ℕ)) → map (λ (line : Line). line.text) (map text_line ls) ≡ ls
    texts-same [] = refl
    texts-same (l ∷ ls) = ap (λ (more : List (List ℕ)). l ∷ more) (texts-same ls)

-- its last line is filled
front-ends : (bytes : List ℕ) (p : Point) (texts : List (List ℕ)) (es : List Event) (z : Point) →
    IsFront bytes p texts es z → Leads line_start following_leaf (around n.Frontmatter p z es)
front-ends bytes p texts es z is = leaf-leads n.Frontmatter p z es refl (front-fills bytes p texts es z is true)

-- In the grammar, before text parts are read and once they are.
pub data IsText : Expression → Type 0 where
  Unread : IsText unread_text
  Plain : IsText plain_text

front-word : (bytes : List ℕ) (text x : Expression) (p : Point) (texts : List (List ℕ)) (es : List Event) (z : Point) →
    IsText text → IsFront bytes p texts es z →
    grammar.Leads text (x ∷ []) (following n.Frontmatter x ∷ []) (around n.Frontmatter p z es)
front-word bytes _ x p texts es z Unread is =
    leads-around unread_text x n.Frontmatter p z es
    (record { left = Nothing; leads = (front-inside bytes p texts es z is).parts.unread_word; ends = refl })
front-word bytes _ x p texts es z Plain is =
    leads-around plain_text x n.Frontmatter p z es
    (record { left = Nothing; leads = (front-inside bytes p texts es z is).parts.word; ends = refl })

-- The mark.

mark-part : (bytes : List ℕ) → FrontPart bytes first_point (mark_point bytes) (mark_events bytes)
mark-part bytes = go (has_mark bytes) refl
  where
    go : (x : Bool) → has_mark bytes ≡ x →
        FrontPart bytes first_point (cond x mark_end first_point)
        (cond x (pair n.ByteOrderMark first_point mark_end) [])
    go false e = part-none bytes first_point refl
    go true e =
        let mark = pair n.ByteOrderMark first_point mark_end in
        let slice : slice_range bytes 0 3 ≡ 239 ∷ 187 ∷ 191 ∷ [] =
        ap (λ (l : List ℕ). slice_range l 0 3) (mark-bytes bytes e) in
        record {
          stretch =
              stretch-pair NoContainer bytes n.ByteOrderMark first_point mark_end
              (record { role_is = tt; no_part = refl; parted = λ p q ys h. h }) refl
              (over-valid bytes n.ByteOrderMark first_point mark_end (239 ∷ 187 ∷ 191 ∷ [])
              (record {
                slice = slice;
                some = omega arith;
                whole = refl;
              }) refl refl);
          first = refl;
          last = between-mark bytes e;
          valid = between-are_valid bytes [] mark (tt, (tt, tt));
          plain = plain-quiet bytes mark (tt, (tt, tt));
        }

-- What is before the lines.

-- the blocks before those of the lines
abbrev pub block_first : Option Block → Blocks
block_first None = End
block_first (Some b) = More b End

-- what is there ends with a line, or the text ends with it
pub data Leaves (bytes : List ℕ) (p : Point) (es : List Event) : Type 0 where
  ToLine : Leads line_start line_start es →
      ((text : Expression) → IsText text → (more : List Event) →
      is_whole (unlisted_left text (blocks ∷ []) more) ≡ true → keeps_unlisted text (es ++ more) ≡ true) →
      Leaves bytes p es
  ToEnd : length bytes ≤ p.index → endings_are_right es ≡ true →
      ((text : Expression) → IsText text → keeps_unlisted text es ≡ true) → Leaves bytes p es

pub record IsFronted (bytes : List ℕ) (block : Option Block) (p : Point) (es : List Event) : Type 0 where
  pub part : FrontPart bytes first_point p es
  pub reads : read bytes unread es ≡ record unread { here = block_first block }
  pub leaves : Leaves bytes p es

-- which of the four forms of a text events have
form-of : (text : Expression) (events : List Event) → (x : Bool) →
    is_whole (unlisted_left text (cond x (Then (one n.ByteOrderMark) blocks) blocks ∷ []) events) ≡ true →
    keeps_unlisted text events ≡ true
unfolding keeps_unlisted
form-of text events false h = rw h refl
form-of text events true h =
    let whole : Expression → Bool = λ x. is_whole (unlisted_left text (x ∷ []) events) in
    let others : List Expression = Then (one n.Frontmatter) after_block
    ∷ Then (one n.ByteOrderMark) (Then (one n.Frontmatter) after_block) ∷ [] in
    or_right (whole blocks) (list_any whole (Then (one n.ByteOrderMark) blocks ∷ others))
    (or_left (whole (Then (one n.ByteOrderMark) blocks)) (list_any whole others) h)

front-form : (text : Expression) (events : List Event) → (x : Bool) →
    is_whole
    (unlisted_left text
    (cond x (Then (one n.ByteOrderMark) (Then (one n.Frontmatter) after_block)) (Then (one n.Frontmatter) after_block)
    ∷ []) events) ≡
    true →
    keeps_unlisted text events ≡ true
unfolding keeps_unlisted
front-form text events x h = go x h
  where
    whole : Expression → Bool
    whole x = is_whole (unlisted_left text (x ∷ []) events)

    two : Expression
    two = Then (one n.Frontmatter) after_block

    three : Expression
    three = Then (one n.ByteOrderMark) (Then (one n.Frontmatter) after_block)

    marked : Expression
    marked = Then (one n.ByteOrderMark) blocks

    go : (x : Bool) → whole (cond x three two) ≡ true →
        (whole blocks || (whole marked || (whole two || (whole three || false)))) ≡ true
    go false h =
        or_right (whole blocks) (whole marked || (whole two || (whole three || false)))
        (or_right (whole marked) (whole two || (whole three || false))
        (or_left (whole two) (whole three || false) h))
    go true h =
        or_right (whole blocks) (whole marked || (whole two || (whole three || false)))
        (or_right (whole marked) (whole two || (whole three || false))
        (or_right (whole two) (whole three || false) (or_left (whole three) false h)))

-- the mark leaves what follows it
mark-leads : (bytes : List ℕ) → Leads line_start line_start (mark_events bytes)
mark-leads bytes = go (has_mark bytes)
  where
    go : (x : Bool) → Leads line_start line_start (cond x (pair n.ByteOrderMark first_point mark_end) [])
    go true = λ ys. refl
    go false = λ ys. refl

mark-reads : (bytes : List ℕ) (r : Reading) → read bytes r (mark_events bytes) ≡ r
mark-reads bytes r = go (has_mark bytes)
  where
    go : (x : Bool) → read bytes r (cond x (pair n.ByteOrderMark first_point mark_end) []) ≡ r
    go true = read-quiet bytes r (pair n.ByteOrderMark first_point mark_end) (tt, (tt, tt))
    go false = refl

mark-unlists : (text x : Expression) (bytes : List ℕ) → or_else x Never ≡ x →
    Unlists text (cond (has_mark bytes) (Then (one n.ByteOrderMark) x) x ∷ []) (x ∷ []) (mark_events bytes)
mark-unlists text x bytes same = go (has_mark bytes)
  where
    go : (mark : Bool) →
        Unlists text (cond mark (Then (one n.ByteOrderMark) x) x ∷ []) (x ∷ [])
        (cond mark (pair n.ByteOrderMark first_point mark_end) [])
    go true = λ outer. ap (λ (y : Expression). y ∷ outer) same
    go false = λ outer. refl

-- the mark alone
pub mark-fronted : (bytes : List ℕ) → IsFronted bytes None (mark_point bytes) (mark_events bytes)
mark-fronted bytes = record {
  part = mark-part bytes;
  reads = mark-reads bytes unread;
  leaves =
      ToLine (mark-leads bytes)
      (λ text kind more h.
      form-of text (mark_events bytes ++ more) (has_mark bytes)
      (ap is_whole
      (unlists-rest text (cond (has_mark bytes) (Then (one n.ByteOrderMark) blocks) blocks ∷ []) (blocks ∷ []) []
      (mark_events bytes) more (mark-unlists text blocks bytes refl))
      ∙ h));
}

-- a mark, if there is one, and frontmatter
front-unlists : (bytes : List ℕ) (text : Expression) (texts : List (List ℕ)) (es : List Event) (z : Point) →
    IsText text → IsFront bytes (mark_point bytes) texts es z →
    Unlists text
    (cond (has_mark bytes) (Then (one n.ByteOrderMark) (Then (one n.Frontmatter) after_block))
    (Then (one n.Frontmatter) after_block)
    ∷ [])
    (after_block ∷ []) (mark_events bytes ++ around n.Frontmatter (mark_point bytes) z es)
front-unlists bytes text texts es z kind is =
    let p = mark_point bytes in
    let form = Then (one n.Frontmatter) after_block in
    let h = front-inside bytes p texts es z is in
    unlists-append text (cond (has_mark bytes) (Then (one n.ByteOrderMark) form) form ∷ []) (form ∷ [])
    (after_block ∷ []) (mark_events bytes) (around n.Frontmatter p z es) (mark-unlists text form bytes refl)
    (unlists-same text (form ∷ []) (after_block ∷ []) (around n.Frontmatter p z es)
    (around-unlisted n.Frontmatter p z es refl h.parts.stretch.roles) (front-word bytes text form p texts es z kind is))

ending-unlists : (text : Expression) (z r : Point) →
    Unlists text (after_block ∷ []) (blocks ∷ []) (pair n.LineEnding z r)
ending-unlists text z r = λ outer. refl

ending-leads : (z r : Point) → Leads following_leaf line_start (pair n.LineEnding z r)
ending-leads z r = λ ys. refl

-- where it begins no tab is cut
body-clear : (bytes : List ℕ) → clear bytes (mark_point bytes) ≡ true
body-clear bytes = whole-clear bytes (mark_point bytes) (body-vs bytes)

-- and what follows it
pub front-fronted : (bytes : List ℕ) (texts : List (List ℕ)) (es : List Event) (z q : Point) (tail : List Event) →
    (is : IsFront bytes (mark_point bytes) texts es z) → z.vs ≡ 0 → z.index ≤ length bytes → Tail bytes z q tail →
    IsFronted bytes (Some (Frontmatter is.m texts)) q
    (mark_events bytes ++ (around n.Frontmatter (mark_point bytes) z es ++ tail))
front-fronted bytes texts es z _ _ is whole within (AtEnd left) =
    let p = mark_point bytes in
    let size = ap length left in
    let rest = length-drop z.index bytes in
    let over : length bytes ≤ z.index = omega (arith, size, rest) in
    let same : z.index ≡ length bytes = omega (arith, over, within) in
    let part =
    front-part bytes p texts es z (body-clear bytes) (body-between bytes) (between-end bytes z.index same) is in
    let front = around n.Frontmatter p z es in
    subst (λ (l : List Event). IsFronted bytes (Some (Frontmatter is.m texts)) z (mark_events bytes ++ l))
    (sym (append-nil front))
    (record {
      part = part-append bytes first_point p z (mark_events bytes) front (mark-part bytes) part;
      reads =
          read-from bytes unread unread (mark_events bytes) front (mark-reads bytes unread)
          ∙ front-reads bytes p texts es z is unread refl refl;
      leaves =
          ToEnd over
          (ap (endings_are_right_from line_start) (sym (append-nil (mark_events bytes ++ front)))
          ∙ leads-append line_start line_start following_leaf (mark_events bytes) front (mark-leads bytes)
          (front-ends bytes p texts es z is) [])
          (λ text kind.
          front-form text (mark_events bytes ++ front) (has_mark bytes)
          (ap is_whole (front-unlists bytes text texts es z kind is [])));
    })
front-fronted bytes texts es z _ _ is whole within (Ended r ending) =
    let p = mark_point bytes in
    let front = around n.Frontmatter p z es in
    let tail = pair n.LineEnding z r in
    let last = ending-before bytes z r ending in
    let part = part-append bytes p z r front tail
    (front-part bytes p texts es z (body-clear bytes) (body-between bytes) last is)
    (ending-part bytes z r whole last (ending-following bytes z r ending) ending) in
    record {
      part = part-append bytes first_point p r (mark_events bytes) (front ++ tail) (mark-part bytes) part;
      reads =
          read-from bytes unread unread (mark_events bytes) (front ++ tail) (mark-reads bytes unread)
          ∙ read-from bytes unread (add_block (Frontmatter is.m texts) unread) front tail
          (front-reads bytes p texts es z is unread refl refl)
          ∙ ending-read bytes z r (add_block (Frontmatter is.m texts) unread) refl refl;
      leaves =
          ToLine
          (subst (Leads line_start line_start) (append_assoc (mark_events bytes) front tail)
          (leads-append line_start following_leaf line_start (mark_events bytes ++ front) tail
          (leads-append line_start line_start following_leaf (mark_events bytes) front (mark-leads bytes)
          (front-ends bytes p texts es z is)) (ending-leads z r)))
          (λ text kind more h.
          front-form text ((mark_events bytes ++ (front ++ tail)) ++ more) (has_mark bytes)
          (ap (λ (l : List Event). is_whole (unlisted_left text (form (has_mark bytes) ∷ []) (l ++ more)))
          (sym (append_assoc (mark_events bytes) front tail))
          ∙ ap is_whole
          (unlists-rest text (form (has_mark bytes) ∷ []) (blocks ∷ []) [] ((mark_events bytes ++ front) ++ tail) more
          (unlists-append text (form (has_mark bytes) ∷ []) (after_block ∷ []) (blocks ∷ [])
          (mark_events bytes ++ front) tail (front-unlists bytes text texts es z kind is) (ending-unlists text z r)))
          ∙ h));
    }
  where
    form : Bool → Expression
    form x =
        cond x (Then (one n.ByteOrderMark) (Then (one n.Frontmatter) after_block))
        (Then (one n.Frontmatter) after_block)

    ending-read : (bytes : List ℕ) (p q : Point) (r : Reading) → r.text ≡ None → r.leaf ≡ None →
        read bytes r (pair n.LineEnding p q) ≡ r
    ending-read bytes p q r none shut =
        ap (λ (o : Option Text). at_ending bytes q o r) none ∙ go (nat_lt q.index (length bytes))
      where
        go : (x : Bool) → cond x (on_leaf next_line r) r ≡ r
        go true = ap (λ (o : Option OpenLeaf). record r { leaf = option_map next_line o }) shut
            ∙ ap (λ (o : Option OpenLeaf). let s : Reading = record r { leaf = o } in s) (sym shut)
        go false = refl
