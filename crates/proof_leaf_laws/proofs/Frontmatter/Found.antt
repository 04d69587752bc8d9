-- The frontmatter that the lines of a text have: where its parts are, and that it is what the line definition finds.
use Rattle.std.proofs.Common.{◌≡◌, ℕ, ◌+◌, ◌≤◌, Bool, true, false, cond, ◌||◌, List, [], ◌∷◌, ◌++◌, drop, take, map}
use Rattle.std.proofs.Common.{suc, Option, Some, None, refl, sym, ◌∙◌, ap, ap₂, subst, subst₂, arith, append_assoc}
use Rattle.std.proofs.Common.{append-nil}
use Rattle.std.specs.Prelude.{not}
use Rattle.std.specs.List.{after_first, before_first, list_any, position_or_len, prefix_len}
use Rattle.std.specs.Option.{option_map}
use Rattle.md_engine.specs.declared.configuration.ParseOptions.{ParseOptions}
use Rattle.md_engine.specs.declared.event.Event.{Event}
use Rattle.md_engine.specs.declared.event.Name.TheVariants as n
use Rattle.md_engine.specs.declared.event.Point.{Point}
use Rattle.md_containers.specs.Frontmatter.{is_marker}
use Rattle.md_meaning.specs.Lines.{full_lines_of, lines_of, without_ending}
use Rattle.md_meaning.specs.Preamble.{Front, front_by, front_marker, front_of, is_front_fence}
use Rattle.md_meaning.specs.Tree.{Frontmatter}
use Rattle.md_meaning.proofs.TextsLemmas.{Ending, EndsBefore, NoEnding, ending_bytes}
use Rattle.md_events.specs.Events.Nested.{around, enter, exit, pair}
use Rattle.md_events.specs.Events.Places.{past_text}
use Rattle.md_events.proofs.FeedLines.{drop-past, is-ending, past_ending, IsEnding}
use Rattle.md_events.proofs.InlineLemmas.{past-index}
use Rattle.proof_leaf_laws.specs.Front.{FrontRead, after_these, ending_of, fence_part, front_from}
use Rattle.proof_leaf_laws.specs.Front.{front_read, line_part, lines_read}
use Rattle.proof_leaf_laws.proofs.FrontAgrees as agrees
use Rattle.proof_leaf_laws.proofs.FrontAgrees.{from-by, last-none, lines_from, marked, marker_by, off-none, part-same}
use Rattle.proof_leaf_laws.proofs.FrontAgrees.{past-same, some-same}
use Rattle.proof_leaf_laws.proofs.FullLines.{IsLines, LastLine, NextLine, NoLines, ending-is, full-lines, last-ending}
use Rattle.proof_leaf_laws.proofs.Frontmatter.Lines.{Closes, IsFront, IsRest, More}
use Rattle.proof_leaf_laws.proofs.Frontmatter.Parts.{HasText, fence_over, has-fence}
use Rattle.proof_frame.proofs.LineTexts.{without-one}
use Rattle.md_leaves.proofs.OneLine.{line-whole}

-- Lists, up to the first that passes a test.

pub first-here : {X : Type 0} (p : X → Bool) (x : X) (xs : List X) → p x ≡ true →
    (before_first p (x ∷ xs) ≡ []) × (after_first p (x ∷ xs) ≡ xs)
first-here p x xs e =
    let none : position_or_len p (x ∷ xs) ≡ 0 =
    ap (λ (t : Bool). cond (not t) (1 + prefix_len (λ y. not (p y)) xs) 0) e in
    (ap (λ (i : ℕ). take i (x ∷ xs)) none, ap (λ (i : ℕ). drop (i + 1) (x ∷ xs)) none)

pub first-later : {X : Type 0} (p : X → Bool) (x : X) (xs : List X) → p x ≡ false →
    (before_first p (x ∷ xs) ≡ x ∷ before_first p xs) × (after_first p (x ∷ xs) ≡ after_first p xs)
first-later p x xs e =
    let n = position_or_len p xs in
    let more : position_or_len p (x ∷ xs) ≡ suc n =
    ap (λ (t : Bool). cond (not t) (1 + n) 0) e ∙ omega arith in
    let two : suc n + 1 ≡ suc (n + 1) = omega arith in (
      ap (λ (i : ℕ). take i (x ∷ xs)) more,
      ap (λ (i : ℕ). drop (i + 1) (x ∷ xs)) more ∙ ap (λ (i : ℕ). drop i (x ∷ xs)) two,
    )

-- Where the text begins that is left.
pub record Here (bytes text : List ℕ) (p : Point) : Type 0 where
  pub valid : drop p.index bytes ≡ text
  pub whole : p.vs ≡ 0
  pub column : 1 ≤ p.column

-- What follows the closing fence: nothing, where the text ends there, or its ending.
pub data Tail (bytes : List ℕ) (z : Point) : Point → List Event → Type 0 where
  AtEnd : drop z.index bytes ≡ [] → Tail bytes z z []
  Ended : (r : Point) → IsEnding bytes z r → Tail bytes z r (pair n.LineEnding z r)

-- The lines after the opening fence, where one closes: their texts, and what the line definition has of them.
pub record RestFound (bytes : List ℕ) (m : ℕ) (p : Point) (lines : List (List ℕ)) (f : FrontRead) : Type 0 where
  pub texts : List (List ℕ)
  pub es : List Event
  pub z : Point
  pub tail : List Event
  pub rest : IsRest bytes m p texts es z
  pub following : Tail bytes z f.point tail
  pub events : f.events ≡ es ++ exit n.Frontmatter z ∷ tail
  pub any : list_any (is_front_fence m) (map without_ending lines) ≡ true
  pub before : before_first (is_front_fence m) (map without_ending lines) ≡ texts
  pub after : after_first (is_front_fence m) (map without_ending lines) ≡ lines_of (drop f.point.index bytes)

abbrev pub RestMeans : List ℕ → ℕ → Point → List (List ℕ) → Option FrontRead → Type 0
RestMeans bytes m p lines None = list_any (is_front_fence m) (map without_ending lines) ≡ false
RestMeans bytes m p lines (Some f) = RestFound bytes m p lines f

-- the parts, by the line and its ending
abbrev Means : List ℕ → ℕ → Point → List (List ℕ) → List ℕ → List ℕ → List (List ℕ) → Type 0
Means bytes m p lines line ending more = RestMeans bytes m p lines (lines_from m line ending more p)

-- the line closes, where nothing or its ending is after it
closes-mean : (bytes : List ℕ) (m : ℕ) (p : Point) (full line : List ℕ) (more : List (List ℕ)) (f : FrontRead)
    (tail : List Event) →
    is_marker m ≡ true → without_ending full ≡ line → HasText bytes line p (past_text line p) →
    is_front_fence m line ≡ true → Tail bytes (past_text line p) f.point tail →
    f.events ≡ fence_part line p ++ exit n.Frontmatter (past_text line p) ∷ tail →
    map without_ending more ≡ lines_of (drop f.point.index bytes) → RestFound bytes m p (full ∷ more) f
closes-mean bytes m p full line more f tail marks is text fence following events left =
    let test : is_front_fence m (without_ending full) ≡ true = ap (is_front_fence m) is ∙ fence in
    let first = first-here (is_front_fence m) (without_ending full) (map without_ending more) test in
    record {
      texts = [];
      es = fence_over line p (past_text line p);
      z = past_text line p;
      tail = tail;
      rest = Closes line p (past_text line p) (has-fence bytes line m p (past_text line p) text marks fence);
      following = following;
      events = events;
      any = ap (λ (t : Bool). t || list_any (is_front_fence m) (map without_ending more)) test;
      before = first.0;
      after = first.1 ∙ left;
    }

-- or continues
more-means : (bytes : List ℕ) (m : ℕ) (p : Point) (full line : List ℕ) (more : List (List ℕ)) (r : Point) →
    without_ending full ≡ line → HasText bytes line p (past_text line p) → is_front_fence m line ≡ false →
    IsEnding bytes (past_text line p) r → (o : Option FrontRead) → RestMeans bytes m r more o →
    RestMeans bytes m p (full ∷ more)
    (option_map (after_these (line_part line p ++ pair n.LineEnding (past_text line p) r)) o)
more-means bytes m p full line more r is text other ending None none =
    ap (λ (t : Bool). t || list_any (is_front_fence m) (map without_ending more)) (ap (is_front_fence m) is ∙ other)
    ∙ none
more-means bytes m p full line more r is text other ending (Some f) found =
    let test : is_front_fence m (without_ending full) ≡ false = ap (is_front_fence m) is ∙ other in
    let first = first-later (is_front_fence m) (without_ending full) (map without_ending more) test in
    let front = line_part line p ++ pair n.LineEnding (past_text line p) r in
    record {
      texts = line ∷ found.texts;
      es = front ++ found.es;
      z = found.z;
      tail = found.tail;
      rest = More line p (past_text line p) r found.z found.texts found.es text ending found.rest;
      following = found.following;
      events =
          ap (λ (es : List Event). front ++ es) found.events
          ∙ sym (append_assoc front found.es (exit n.Frontmatter found.z ∷ found.tail));
      any =
          ap (λ (t : Bool). t || list_any (is_front_fence m) (map without_ending more)) test ∙ found.any;
      before = first.0 ∙ ap₂ (λ (l : List ℕ) (ls : List (List ℕ)). l ∷ ls) is found.before;
      after = first.1 ∙ found.after;
    }

-- where a line is
last-text : (bytes line : List ℕ) (p : Point) → Here bytes line p → NoEnding line →
    (text : HasText bytes line p (past_text line p)) × (drop (past_text line p).index bytes ≡ [])
last-text bytes line p at bare =
    let valid : drop p.index bytes ≡ line ++ [] = at.valid ∙ sym (append-nil line) in
    let none : drop (past_text line p).index bytes ≡ [] =
    ap (λ (i : ℕ). drop i bytes) (past-index line p) ∙ drop-past bytes p.index line [] valid in (
      record {
        no_ending = bare;
        valid = valid ∙ ap (λ (l : List ℕ). line ++ l) (sym none);
        end = refl;
        whole = at.whole;
        column = at.column;
      },
      none,
    )

record Proceeds (bytes line : List ℕ) (ending : Ending) (rest : List ℕ) (p : Point) : Type 0 where
  pub text : HasText bytes line p (past_text line p)
  pub ending_is : IsEnding bytes (past_text line p) (past_ending ending (past_text line p))
  pub next : Here bytes rest (past_ending ending (past_text line p))

next-text : (bytes line : List ℕ) (ending : Ending) (rest : List ℕ) (p : Point) →
    Here bytes (line ++ (ending_bytes ending ++ rest)) p → NoEnding line → EndsBefore ending rest →
    Proceeds bytes line ending rest p
next-text bytes line ending rest p at bare before =
    let q = past_text line p in
    let following : drop q.index bytes ≡ ending_bytes ending ++ rest =
    ap (λ (i : ℕ). drop i bytes) (past-index line p)
    ∙ drop-past bytes p.index line (ending_bytes ending ++ rest) at.valid in
    record {
      text = record {
        no_ending = bare;
        valid = at.valid ∙ ap (λ (l : List ℕ). line ++ l) (sym following);
        end = refl;
        whole = at.whole;
        column = at.column;
      };
      ending_is = is-ending bytes ending rest q following before;
      next = record {
        valid = drop-past bytes q.index (ending_bytes ending) rest following;
        whole = refl;
        column = omega arith;
      };
    }

-- the lines of what is left
left-lines : (bytes text : List ℕ) (lines : List (List ℕ)) (p : Point) → Here bytes text p →
    lines ≡ full_lines_of text → map without_ending lines ≡ lines_of (drop p.index bytes)
left-lines bytes text lines p at is =
    ap (map without_ending) is ∙ ap lines_of (sym at.valid)

-- After the opening fence: the last line,
last-means : (bytes : List ℕ) (m : ℕ) (line : List ℕ) (p : Point) → is_marker m ≡ true → NoEnding line →
    Here bytes line p → Means bytes m p (line ∷ []) line [] []
last-means bytes m line p marks bare at = go (is_front_fence m line) refl
  where
    q : Point
    q = past_text line p

    go : (x : Bool) → is_front_fence m line ≡ x →
        RestMeans bytes m p (line ∷ [])
        (cond x (Some (record { events = fence_part line p ++ exit n.Frontmatter q ∷ []; point = q })) None)
    go true e =
        closes-mean bytes m p line line []
        (record { events = fence_part line p ++ exit n.Frontmatter q ∷ []; point = q }) [] marks (line-whole line bare)
        (last-text bytes line p at bare).0 e (AtEnd (last-text bytes line p at bare).1) refl
        (ap lines_of (sym (last-text bytes line p at bare).1))
    go false e =
        ap (λ (t : Bool). t || false) (ap (is_front_fence m) (line-whole line bare) ∙ e)

-- and one with an ending.
next-means : (bytes : List ℕ) (m : ℕ) (line : List ℕ) (ending : Ending) (rest : List ℕ) (more : List (List ℕ))
    (p : Point) →
    is_marker m ≡ true → NoEnding line → EndsBefore ending rest → more ≡ full_lines_of rest →
    Here bytes (line ++ (ending_bytes ending ++ rest)) p →
    (let r = past_ending ending (past_text line p) in RestMeans bytes m r more (lines_read m more r)) →
    Means bytes m p ((line ++ ending_bytes ending) ∷ more) line (ending_bytes ending) more
next-means bytes m line ending rest more p marks bare before same at below =
    subst₂
    (λ (x : Point) (es : List Event).
    RestMeans bytes m p (full ∷ more)
    (cond (is_front_fence m line)
    (Some (record { events = fence_part line p ++ exit n.Frontmatter q ∷ es; point = x }))
    (option_map (after_these (line_part line p ++ es)) (lines_read m more x))))
    (sym (past-same ending q)) (sym (part-same ending q)) (go (is_front_fence m line) refl)
  where
    q : Point
    q = past_text line p

    r : Point
    r = past_ending ending q

    full : List ℕ
    full = line ++ ending_bytes ending

    proceeds : Proceeds bytes line ending rest p
    proceeds = next-text bytes line ending rest p at bare before

    go : (x : Bool) → is_front_fence m line ≡ x →
        RestMeans bytes m p (full ∷ more)
        (cond x
        (Some
        (record { events = fence_part line p ++ exit n.Frontmatter q ∷ pair n.LineEnding q r; point = r }))
        (option_map (after_these (line_part line p ++ pair n.LineEnding q r)) (lines_read m more r)))
    go true e =
        closes-mean bytes m p full line more
        (record { events = fence_part line p ++ exit n.Frontmatter q ∷ pair n.LineEnding q r; point = r })
        (pair n.LineEnding q r) marks (without-one line ending bare) proceeds.text e (Ended r proceeds.ending_is) refl
        (left-lines bytes rest more r proceeds.next same)
    go false e =
        more-means bytes m p full line more r (without-one line ending bare) proceeds.text e proceeds.ending_is
        (lines_read m more r) below

lines-mean : (bytes : List ℕ) (m : ℕ) → is_marker m ≡ true → (text : List ℕ) (lines : List (List ℕ)) →
    IsLines text lines → (p : Point) → Here bytes text p → RestMeans bytes m p lines (lines_read m lines p)
lines-mean bytes m marks _ _ NoLines p at = refl
lines-mean bytes m marks _ _ (LastLine b line bare) p at =
    subst₂ (λ (l e : List ℕ). Means bytes m p ((b ∷ line) ∷ []) l e []) (sym (line-whole (b ∷ line) bare))
    (sym (last-ending (b ∷ line) bare)) (last-means bytes m (b ∷ line) p marks bare at)
lines-mean bytes m marks _ _ (NextLine line ending rest more bare before lines same) p at =
    let proceeds = next-text bytes line ending rest p at bare before in
    subst₂ (λ (l e : List ℕ). Means bytes m p ((line ++ ending_bytes ending) ∷ more) l e more)
    (sym (without-one line ending bare)) (sym (ending-is line ending bare))
    (next-means bytes m line ending rest more p marks bare before same at
    (lines-mean bytes m marks rest more lines (past_ending ending (past_text line p)) proceeds.next))

-- All of it.

-- the frontmatter of a text, where its lines begin at this point
pub record FrontFound (bytes : List ℕ) (options : ParseOptions) (p : Point) (lines : List (List ℕ)) (f : FrontRead) :
    Type 0 where
  pub texts : List (List ℕ)
  pub es : List Event
  pub z : Point
  pub tail : List Event
  pub is : IsFront bytes p texts es z
  pub following : Tail bytes z f.point tail
  pub events : f.events ≡ around n.Frontmatter p z es ++ tail
  pub meaning : front_of options (map without_ending lines) ≡
      Some (record { block = Frontmatter is.m texts; after = lines_of (drop f.point.index bytes) })

abbrev pub FrontMeans : List ℕ → ParseOptions → Point → List (List ℕ) → Option FrontRead → Type 0
FrontMeans bytes options p lines None = front_of options (map without_ending lines) ≡ None
FrontMeans bytes options p lines (Some f) = FrontFound bytes options p lines f

-- the marker of a fence marks one
pub marker-marks : (line : List ℕ) (m : ℕ) → front_marker line ≡ Some m →
    (is_marker m ≡ true) × (is_front_fence m line ≡ true)
marker-marks line m e = go (is_front_fence 45 line) (is_front_fence 43 line) refl refl (sym (marked line) ∙ e)
  where
    go : (x y : Bool) → is_front_fence 45 line ≡ x → is_front_fence 43 line ≡ y → marker_by x y ≡ Some m →
        (is_marker m ≡ true) × (is_front_fence m line ≡ true)
    go true y f g k =
        let same : 45 ≡ m = some-same 45 m k in
        (ap is_marker (sym same) ∙ refl, ap (λ (c : ℕ). is_front_fence c line) (sym same) ∙ f)
    go false true f g k =
        let same : 43 ≡ m = some-same 43 m k in
        (ap is_marker (sym same) ∙ refl, ap (λ (c : ℕ). is_front_fence c line) (sym same) ∙ g)
    go false false f g k = absurd (none-some k)
      where
        none-some : None ≡ Some m → ⊥
        none-some k = absurd (cc)

-- by the line definition, where the first line is a fence of this marker
found-front : (m : ℕ) (lines : List (List ℕ)) (texts after : List (List ℕ)) →
    list_any (is_front_fence m) lines ≡ true → before_first (is_front_fence m) lines ≡ texts →
    after_first (is_front_fence m) lines ≡ after →
    front_by (Some m) lines ≡ Some (record { block = Frontmatter m texts; after = after })
found-front m lines texts after any before following =
    ap
    (λ (t : Bool).
    cond t
    (Some
    (record {
      block = Frontmatter m (before_first (is_front_fence m) lines);
      after = after_first (is_front_fence m) lines;
    }))
    None) any
    ∙ ap₂
    (λ (ls left : List (List ℕ)).
    let f : Front = record { block = Frontmatter m ls; after = left } in Some f) before following

joined : (front es : List Event) (z : Point) (tail : List Event) →
    front ++ (es ++ exit n.Frontmatter z ∷ tail) ≡ ((front ++ es) ++ exit n.Frontmatter z ∷ []) ++ tail
joined front es z tail =
    sym (append_assoc front es (exit n.Frontmatter z ∷ tail))
    ∙ sym (append_assoc (front ++ es) (exit n.Frontmatter z ∷ []) tail)

-- the first line is such a fence, and another one follows it
open-means : (bytes : List ℕ) (options : ParseOptions) (p : Point) (full line : List ℕ) (ending : Ending)
    (rest : List ℕ) (more : List (List ℕ)) (m : ℕ) →
    options.constructs.frontmatter ≡ true → without_ending full ≡ line → front_marker line ≡ Some m →
    (proceeds : Proceeds bytes line ending rest p) →
    (o : Option FrontRead) → RestMeans bytes m (past_ending ending (past_text line p)) more o →
    FrontMeans bytes options p (full ∷ more)
    (option_map
    (after_these
    (enter n.Frontmatter p ∷ fence_part line p
    ++ pair n.LineEnding (past_text line p) (past_ending ending (past_text line p))))
    o)
unfolding front_of
open-means bytes options p full line ending rest more m on is marker proceeds None none =
    ap₂
    (λ (t : Bool) (l : List ℕ). cond t (front_by (front_marker l) (map without_ending more)) None) on is
    ∙ ap (λ (o : Option ℕ). front_by o (map without_ending more)) marker
    ∙ ap
    (λ (t : Bool).
    cond t
    (Some
    (record {
      block = Frontmatter m (before_first (is_front_fence m) (map without_ending more));
      after = after_first (is_front_fence m) (map without_ending more);
    }))
    None) none
open-means bytes options p full line ending rest more m on is marker proceeds (Some f) found =
    let marks = marker-marks line m marker in
    let q = past_text line p in
    let r = past_ending ending q in
    let inside = (fence_over line p q ++ pair n.LineEnding q r) ++ found.es in
    record {
      texts = found.texts;
      es = inside;
      z = found.z;
      tail = found.tail;
      is = record {
        m = m;
        line = line;
        q = q;
        r = r;
        rest = found.es;
        opens = has-fence bytes line m p q proceeds.text marks.0 marks.1;
        ending = proceeds.ending_is;
        lines = found.rest;
        all = refl;
      };
      following = found.following;
      events =
          ap (λ (es : List Event). enter n.Frontmatter p ∷ (fence_part line p ++ pair n.LineEnding q r) ++ es)
          found.events
          ∙ ap (λ (es : List Event). enter n.Frontmatter p ∷ es)
          (joined (fence_part line p ++ pair n.LineEnding q r) found.es found.z found.tail);
      meaning =
          ap₂
          (λ (t : Bool) (l : List ℕ). cond t (front_by (front_marker l) (map without_ending more)) None) on is
          ∙ ap (λ (o : Option ℕ). front_by o (map without_ending more)) marker
          ∙ found-front m (map without_ending more) found.texts (lines_of (drop f.point.index bytes)) found.any
          found.before found.after;
    }

-- where frontmatter is off, or the first line is no fence, there is none
none-by : (options : ParseOptions) (line : List ℕ) (more : List (List ℕ)) → front_marker line ≡ None →
    front_of options (line ∷ more) ≡ None
unfolding front_of
none-by options line more e =
    ap (λ (o : Option ℕ). cond options.constructs.frontmatter (front_by o more) None) e
    ∙ both options.constructs.frontmatter
  where
    both : (x : Bool) → cond x (front_by None more) None ≡ None
    both true = refl
    both false = refl

none-off : (options : ParseOptions) (lines : List (List ℕ)) → options.constructs.frontmatter ≡ false →
    front_of options lines ≡ None
unfolding front_of
none-off options [] off = refl
none-off options (line ∷ lines) off =
    ap (λ (t : Bool). cond t (front_by (front_marker line) lines) None) off

none-last : (options : ParseOptions) (line : List ℕ) → front_of options (line ∷ []) ≡ None
unfolding front_of
none-last options line = go options.constructs.frontmatter (front_marker line)
  where
    go : (x : Bool) (o : Option ℕ) → cond x (front_by o []) None ≡ None
    go true None = refl
    go true (Some m) = refl
    go false o = refl

none-lines : (options : ParseOptions) → front_of options [] ≡ None
unfolding front_of
none-lines options = refl

-- a line with its ending
next-front : (bytes : List ℕ) (options : ParseOptions) (line : List ℕ) (ending : Ending) (rest : List ℕ)
    (more : List (List ℕ)) (p : Point) →
    options.constructs.frontmatter ≡ true → NoEnding line → IsLines rest more → Proceeds bytes line ending rest p →
    (o : Option ℕ) → front_marker line ≡ o →
    FrontMeans bytes options p ((line ++ ending_bytes ending) ∷ more)
    (agrees.front_by o line (ending_bytes ending) more p)
next-front bytes options line ending rest more p on bare lines proceeds None marker =
    ap (λ (l : List ℕ). front_of options (l ∷ map without_ending more)) (without-one line ending bare)
    ∙ none-by options line (map without_ending more) marker
next-front bytes options line ending rest more p on bare lines proceeds (Some m) marker =
    let q = past_text line p in
    subst₂
    (λ (x : Point) (es : List Event).
    FrontMeans bytes options p ((line ++ ending_bytes ending) ∷ more)
    (option_map (after_these (enter n.Frontmatter p ∷ fence_part line p ++ es)) (lines_read m more x)))
    (sym (past-same ending q)) (sym (part-same ending q))
    (open-means bytes options p (line ++ ending_bytes ending) line ending rest more m on
    (without-one line ending bare) marker
    proceeds (lines_read m more (past_ending ending q))
    (lines-mean bytes m (marker-marks line m marker).0 rest more lines (past_ending ending q) proceeds.next))

on-means : (bytes : List ℕ) (options : ParseOptions) (text : List ℕ) (lines : List (List ℕ)) →
    options.constructs.frontmatter ≡ true → IsLines text lines → (p : Point) → Here bytes text p →
    FrontMeans bytes options p lines (front_read options lines p)
on-means bytes options _ _ on NoLines p at = none-lines options
on-means bytes options _ _ on (LastLine b line bare) p at =
    let full = b ∷ line in
    subst (FrontMeans bytes options p (full ∷ []))
    (sym
    (ap (λ (t : Bool). cond t (front_from (front_marker (without_ending full)) full [] p) None) on
    ∙ from-by (front_marker (without_ending full)) full [] p
    ∙ last-none (front_marker (without_ending full)) (without_ending full) (ending_of full) p))
    (none-last options (without_ending full))
on-means bytes options _ _ on (NextLine line ending rest more bare before lines same) p at =
    let full = line ++ ending_bytes ending in
    subst (FrontMeans bytes options p (full ∷ more))
    (sym
    (ap (λ (t : Bool). cond t (front_from (front_marker (without_ending full)) full more p) None) on
    ∙ from-by (front_marker (without_ending full)) full more p
    ∙ ap₂ (λ (l e : List ℕ). agrees.front_by (front_marker l) l e more p) (without-one line ending bare)
    (ending-is line ending bare)))
    (next-front bytes options line ending rest more p on bare lines
    (next-text bytes line ending rest p at bare before) (front_marker line) refl)

-- What the lines of a text have in front, from this point on, is what the line definition finds.
pub front-means : (bytes : List ℕ) (options : ParseOptions) (text : List ℕ) (p : Point) → Here bytes text p →
    FrontMeans bytes options p (full_lines_of text) (front_read options (full_lines_of text) p)
front-means bytes options text p at = go options.constructs.frontmatter refl
  where
    go : (x : Bool) → options.constructs.frontmatter ≡ x →
        FrontMeans bytes options p (full_lines_of text) (front_read options (full_lines_of text) p)
    go true on = on-means bytes options text (full_lines_of text) on (full-lines text) p at
    go false off =
        subst (FrontMeans bytes options p (full_lines_of text)) (sym (off-none options (full_lines_of text) p off))
        (none-off options (map without_ending (full_lines_of text)) off)
