-- A list item opens by the cells of a line where it does by the definition of lines, and leaves what that says.
use Rattle.std.proofs.Common.{◌≡◌, ℕ, ◌+◌, ◌^◌, ◌<◌, ◌≤◌, Bool, true, false, cond, not, ◌&&◌, ◌||◌, List, [], ◌∷◌, ◌++◌}
use Rattle.std.proofs.Common.{length, drop, Option, Some, None, refl, sym, ap, ap₂, ◌∙◌, subst, arith, append_assoc}
use Rattle.std.proofs.Common.{nat_lt}
use Rattle.std.specs.Prelude.{◌==◌, nat_le}
use Rattle.std.specs.List.{list_all, take_while}
use Rattle.std.proofs.lemmas.Bool.Decides.{nat_tests}
use Rattle.std.proofs.lemmas.List.Sums.{take_while-cons}
use Rattle.std.proofs.lemmas.Bool.{and_right}
use Rattle.md_engine.specs.declared.configuration.ParseOptions.{ParseOptions}
use Rattle.md_engine.specs.declared.event.Event.{Event}
use Rattle.md_engine.specs.declared.event.Name.TheVariants as n
use Rattle.md_engine.specs.declared.event.Point.{Point}
use Rattle.md_engine.specs.declared.tokenizer.Line.{Line}
use Rattle.md_engine.specs.Meaning.{Cell}
use Rattle.md_containers.specs.Item.{ends_value}
use Rattle.md_containers.specs.ItemPrefix.{ItemPassed, digits_of, item_after, item_marked, item_new, item_numbered}
use Rattle.md_containers.specs.ItemPrefix.{item_valued}
use Rattle.md_containers.specs.ItemRule.{digits_end, digits_rest, digits_size}
use Rattle.md_containers.specs.QuoteRule.{indent_events}
use Rattle.md_containers.proofs.AfterIndent.{IsAfter, following-indent}
use Rattle.md_containers.proofs.ItemBreak.{rule-spread}
use Rattle.md_containers.proofs.ItemDigits.{HasDigits, TakesDigits, digits-walk, spread-one, starts, starts-spread}
use Rattle.md_containers.proofs.ItemDigits.{starts-stop}
use Rattle.md_containers.proofs.ItemLines.{ItemAgrees, LeavesRest}
use Rattle.md_containers.proofs.ItemMarker.{HasItemMarker, PaddedFrom, marked-agrees}
use Rattle.md_containers.proofs.ItemShorter.{digits-length}
use Rattle.md_containers.proofs.ItemBeginMeaning.{bullet-dark}
use Rattle.md_events.proofs.LostColumns.{White}
use Rattle.md_meaning.specs.Containers.{Marker, Taken, is_bullet, is_digit, item_by, item_with, list_marker}
use Rattle.md_meaning.specs.Containers.{marker_following, may_interrupt, opens_item}
use Rattle.md_meaning.specs.Leaves.{is_rule, is_rule_marker}
use Rattle.md_meaning.specs.Lines.{begins_with}
use Rattle.md_meaning.specs.Rest.{Rest, following, after_indent, has_small_indent, indent, is_blank, is_parted}
use Rattle.md_meaning.specs.Rest.{is_white}
use Rattle.md_meaning.specs.State.{InItem}
use Rattle.md_meaning.proofs.TextsLemmas.{NoEnding, no_ending-drop}
use Rattle.md_events.specs.Ahead.{begins_white, line_bytes, white_end, white_rest}
use Rattle.md_events.specs.Events.Inline.{pair_unless_empty}
use Rattle.md_events.specs.Events.Nested.{enter, exit, pair}
use Rattle.md_events.specs.Events.Places.{past_byte, past_text}
use Rattle.md_events.specs.Spaces.{small_indent}
use Rattle.md_events.proofs.FeedLines.{Stops, cell, past-next, spread}
use Rattle.md_events.proofs.RestCells.{Bare, RestAt, past_rest, rest_cells}
use Rattle.md_events.proofs.InlineLemmas.{past_text-append}

abbrev rest : ℕ → List ℕ → Rest
rest column bytes = record { column = column; spaces = 0; bytes = bytes }

-- a bullet, or 1 to 9 digits and what ends them
abbrev pub IsMarker : List ℕ → ℕ → Type 0
IsMarker [] byte = is_bullet byte ≡ true
IsMarker (d ∷ ds) byte =
    (list_all is_digit (d ∷ ds) ≡ true) × (length (d ∷ ds) ≤ 9) × (ends_value byte ≡ true)

abbrev pub value_events : List ℕ → Point → List Event
value_events [] p = []
value_events (d ∷ ds) p = pair n.ListItemValue p (past_text (d ∷ ds) p)

-- the events of a prefix that begins at a point, after its indent
abbrev pub prefix_of : List ℕ → ℕ → Point → Point → List Event
prefix_of digits byte p q =
    let marker = past_text digits p in
    let following = past_byte byte marker in
    enter n.ListItemPrefix p
    ∷ (value_events digits p
    ++ (pair n.ListItemMarker marker following
    ++ (pair_unless_empty n.SpaceOrTab following q ++ exit n.ListItemPrefix q ∷ [])))

-- after an indent: a prefix is at these bytes
pub record HasItem (line : Line) (text past : List ℕ) (bytes : List ℕ) (p : Point) (stop : List Cell)
    (front : List Event) (passed : ItemPassed) (taken : Taken) : Type 0 where
  pub leaves : LeavesRest line text past (past_text bytes p) stop (spread line bytes p ++ stop) passed taken
  pub fewer : length passed.cells < length (spread line bytes p ++ stop)
  pub digits : List ℕ
  pub byte : ℕ
  pub more : List ℕ
  pub bytes_are : bytes ≡ digits ++ (byte ∷ more)
  pub marker : IsMarker digits byte
  pub item : (width : ℕ) × (blank : Bool) × (passed.container ≡ InItem digits byte width blank)
  pub events : passed.events ≡ front ++ prefix_of digits byte p passed.point
  pub white : White text (past_byte byte (past_text digits p)) passed.point
  pub padded : PaddedFrom line text past more (past_byte byte (past_text digits p)) stop passed.point taken.rest

-- Bytes.

ends-dark : (b : ℕ) → ends_value b ≡ true → is_white b ≡ false
ends-dark b e = grind (arith, nat_tests)

digit-no_rule : (b : ℕ) → is_digit b ≡ true → is_rule_marker b ≡ false
digit-no_rule b e = grind (arith, nat_tests)

white-bullet : (b : ℕ) → is_white b ≡ true → is_bullet b ≡ false
white-bullet b e = grind (arith, nat_tests)

white-digit : (b : ℕ) → is_white b ≡ true → is_digit b ≡ false
white-digit b e = grind (arith, nat_tests)

digit-no_end : (b : ℕ) → is_digit b ≡ true → ends_value b ≡ false
digit-no_end b e = grind (arith, nat_tests)

-- A bullet.

and-true : (i x : Bool) → (not i || (x && true)) ≡ (not i || x)
and-true true true = refl
and-true true false = refl
and-true false x = refl

never : (x y : Bool) (t : Taken) → cond (x && false && y) (Some t) None ≡ None
never true y t = refl
never false y t = refl

-- what the definition has where a break is
broken : (options : ParseOptions) (interrupting : Bool) (before : ℕ) (from after : Rest) (marker : Marker) →
    options.constructs.thematic_break && is_rule from.bytes ≡ true →
    item_with options interrupting before from after marker ≡ None
broken options interrupting before from after marker e = rw e (never (is_parted after.bytes) _ _)

bullet-agrees : (options : ParseOptions) (interrupting : Bool) (line : Line) (text past : List ℕ) (column b : ℕ)
    (bs : List ℕ) (q : Point) (stop : List Cell) (p : Point) (before : ℕ) (front : List Event) →
    RestAt text past (rest column (b ∷ bs)) q → NoEnding (b ∷ bs) → Stops stop → q.column ≡ p.column + before →
    is_bullet b ≡ true →
    ItemAgrees (HasItem line text past (b ∷ bs) q stop front)
    (cond (options.constructs.thematic_break && is_rule (b ∷ bs)) None
    (item_marked interrupting p [] (front ++ enter n.ListItemPrefix q ∷ []) (cell b (past_byte b q) line)
    (spread line bs (past_byte b q) ++ stop) q))
    (item_by options interrupting before (rest column (b ∷ bs)) (Some (record { digits = []; byte = b })))
bullet-agrees options interrupting line text past column b bs q stop p before front is h k at e =
    go (options.constructs.thematic_break && is_rule (b ∷ bs)) refl
  where
    from : Rest
    from = rest column (b ∷ bs)

    marker : Marker
    marker = record { digits = []; byte = b }

    front' : List Event
    front' = front ++ enter n.ListItemPrefix q ∷ []

    marked : Option ItemPassed
    marked =
        item_marked interrupting p [] front' (cell b (past_byte b q) line) (spread line bs (past_byte b q) ++ stop) q

    by : (o : Option ItemPassed) (t : Option Taken) →
        ItemAgrees (HasItemMarker line text past [] b bs q stop front') o t →
        ItemAgrees (HasItem line text past (b ∷ bs) q stop front) o t
    by None None has = tt
    by None (Some t) has = absurd has
    by (Some o) None has = absurd has
    by (Some o) (Some t) has = record {
      leaves = has.leaves;
      fewer = has.fewer;
      digits = [];
      byte = b;
      more = bs;
      bytes_are = refl;
      marker = e;
      item = has.item;
      events = has.events ∙ append_assoc front (enter n.ListItemPrefix q ∷ []) _;
      white = has.white;
      padded = has.padded;
    }

    go : (x : Bool) → options.constructs.thematic_break && is_rule (b ∷ bs) ≡ x →
        ItemAgrees (HasItem line text past (b ∷ bs) q stop front) (cond x None marked)
        (item_by options interrupting before from (Some marker))
    go true f =
        subst (ItemAgrees (HasItem line text past (b ∷ bs) q stop front) None)
        (sym (broken options interrupting before from (following 1 from) marker f)) tt
    go false f =
        by marked (item_by options interrupting before from (Some marker))
        (marked-agrees options interrupting line text past column b bs q stop p before from [] front' is h.1 k
        (bullet-dark b e) (omega (arith, at))
        (record { after = refl; no_break = f; interrupts = and-true interrupting (not (is_blank bs)) }))

-- Digits.

numbered-none : (interrupting : Bool) (p : Point) (digits : List ℕ) (size : ℕ) (front : List Event) (cells : List Cell)
    (q : Point) →
    starts ends_value cells ≡ false → item_numbered interrupting p digits size front cells q ≡ None
numbered-none interrupting p digits size front [] q e = refl
numbered-none interrupting p digits size front (c ∷ cs) q e = rw e refl

late : (x : Bool) (t : Taken) → cond (x && true && false) (Some t) None ≡ None
late true t = refl
late false t = refl

-- what the definition has where text is not interrupted
refused-by : (options : ParseOptions) (before : ℕ) (from after : Rest) (marker : Marker) →
    options.constructs.thematic_break && is_rule from.bytes ≡ false → may_interrupt marker after ≡ false →
    item_with options true before from after marker ≡ None
refused-by options before from after marker e f = rw (e, f) (late (is_parted after.bytes) _)

and-false : (x : Bool) → (x && false) ≡ false
and-false true = refl
and-false false = refl

-- digits that may interrupt text are `1` alone
abbrev IsFirst : Bool → List ℕ → Type 0
IsFirst interrupting digits = (not interrupting || begins_with 49 digits) ≡ true

numbered-agrees : (options : ParseOptions) (interrupting : Bool) (line : Line) (text past : List ℕ)
    (column m : ℕ) (ms : List ℕ) (q : Point) (stop : List Cell) (p : Point) (before : ℕ) (from : Rest)
    (digits : List ℕ) (front : List Event) →
    RestAt text past (rest column (m ∷ ms)) q → NoEnding ms → Stops stop →
    q.column ≡ p.column + before + length digits → 1 ≤ length digits → IsFirst interrupting digits →
    following (length digits + 1) from ≡ rest (column + 1) ms →
    options.constructs.thematic_break && is_rule from.bytes ≡ false → ends_value m ≡ true →
    ItemAgrees (HasItemMarker line text past digits m ms q stop front)
    (item_numbered interrupting p digits (length digits) front
    (cell m (past_byte m q) line ∷ (spread line ms (past_byte m q) ++ stop)) q)
    (item_by options interrupting before from (Some (record { digits = digits; byte = m })))
numbered-agrees options interrupting line text past column m ms q stop p before from digits front is h k at some first
    after plain e =
    rw e (go interrupting digits at some first after)
  where
    Agrees : Bool → List ℕ → Option ItemPassed → Type 0
    Agrees i ds o =
        ItemAgrees (HasItemMarker line text past ds m ms q stop front) o
        (item_by options i before from (Some (record { digits = ds; byte = m })))

    marked : Bool → List ℕ → Option ItemPassed
    marked i ds =
        item_marked i p ds front (cell m (past_byte m q) line) (spread line ms (past_byte m q) ++ stop) q

    marks : (i : Bool) (ds : List ℕ) → q.column ≡ p.column + before + length ds →
        following (length ds + 1) from ≡ rest (column + 1) ms →
        (not i || may_interrupt (record { digits = ds; byte = m }) (rest (column + 1) ms)) ≡
        (not i || not (is_blank ms)) →
        Agrees i ds (marked i ds)
    marks i ds at after speaks =
        marked-agrees options i line text past column m ms q stop p before from ds front is h k (ends-dark m e) at
        (record { after = after; no_break = plain; interrupts = speaks })

    go : (i : Bool) (ds : List ℕ) → q.column ≡ p.column + before + length ds → 1 ≤ length ds → IsFirst i ds →
        following (length ds + 1) from ≡ rest (column + 1) ms →
        Agrees i ds (cond (not i || nat_lt (length ds) 2) (marked i ds) None)
    go i [] at some first after = absurd (omega (arith, some))
    go false (d ∷ ds) at some first after = marks false (d ∷ ds) at after refl
    go true (d ∷ []) at some first after =
        marks true (d ∷ []) at after
        (ap (λ (x : Bool). not (is_blank ms) && x) first ∙ and-true true (not (is_blank ms)))
    go true (d ∷ c ∷ ds) at some first after =
        let two : nat_lt (length (d ∷ c ∷ ds)) 2 ≡ false = grind (arith, nat_tests) in
        let none = refused-by options before from (following (length (d ∷ c ∷ ds) + 1) from)
        (record { digits = d ∷ c ∷ ds; byte = m }) plain
        (and-false (not (is_blank (following (length (d ∷ c ∷ ds) + 1) from).bytes))) in
        subst (λ (x : Bool). Agrees true (d ∷ c ∷ ds) (cond x (marked true (d ∷ c ∷ ds)) None)) (sym two)
        (subst (ItemAgrees (HasItemMarker line text past (d ∷ c ∷ ds) m ms q stop front) None) (sym none) tt)

digits-marker : (ds : List ℕ) (m : ℕ) → 1 ≤ length ds → list_all is_digit ds ≡ true → length ds ≤ 9 →
    ends_value m ≡ true → IsMarker ds m
digits-marker [] m some all few e = absurd (omega (arith, some))
digits-marker (d ∷ ds) m some all few e = (all, few, e)

digits-events : (ds : List ℕ) (front xs : List Event) (q : Point) → 1 ≤ length ds →
    (front ++ enter n.ListItemPrefix q ∷ pair n.ListItemValue q (past_text ds q)) ++ xs ≡
    front ++ (enter n.ListItemPrefix q ∷ (value_events ds q ++ xs))
digits-events [] front xs q some = absurd (omega (arith, some))
digits-events (d ∷ ds) front xs q some =
    append_assoc front (enter n.ListItemPrefix q ∷ pair n.ListItemValue q (past_text (d ∷ ds) q)) xs

starts-no_end : (cells : List Cell) → starts is_digit cells ≡ true → starts ends_value cells ≡ false
starts-no_end [] e = refl
starts-no_end (c ∷ cs) e = digit-no_end c.byte e

-- Digits, of which nine at most are taken: an item opens after them, by the cells and by the bytes.
by-digits : (options : ParseOptions) (interrupting : Bool) (line : Line) (text past : List ℕ) (column : ℕ)
    (bytes : List ℕ) (q : Point) (stop : List Cell) (p : Point) (before : ℕ) (front : List Event) (ds : List ℕ) →
    RestAt text past (rest column bytes) q → NoEnding bytes → Stops stop → q.column ≡ p.column + before →
    HasDigits line text past 9 column bytes q stop ds → 1 ≤ length ds → IsFirst interrupting ds →
    options.constructs.thematic_break && is_rule bytes ≡ false →
    ItemAgrees (HasItem line text past bytes q stop front)
    (item_valued interrupting p front (spread line bytes q ++ stop) q)
    (item_by options interrupting before (rest column bytes)
    (cond (nat_le 1 (length ds) && nat_le (length ds) 9) (marker_following ds (drop (length ds) bytes)) None))
by-digits options interrupting line text past column bytes q stop p before front ds is h k at has some first plain =
    go (nat_le (length ds) 9) refl
  where
    cells : List Cell
    cells = spread line bytes q ++ stop

    from : Rest
    from = rest column bytes

    q' : Point
    q' = past_text ds q

    front' : List Event
    front' = front ++ enter n.ListItemPrefix q ∷ pair n.ListItemValue q q'

    Agrees : Option ItemPassed → Option Marker → Type 0
    Agrees o m = ItemAgrees (HasItem line text past bytes q stop front) o (item_by options interrupting before from m)

    -- one digit at least
    one : (x : Bool) → nat_le (length ds) 9 ≡ x →
        cond (nat_le 1 (length ds) && nat_le (length ds) 9) (marker_following ds (drop (length ds) bytes)) None ≡
        cond x (marker_following ds (drop (length ds) bytes)) None
    one x e =
        let least : nat_le 1 (length ds) ≡ true = grind (arith, nat_tests) in
        ap (λ (y : Bool). cond (y && nat_le (length ds) 9) (marker_following ds (drop (length ds) bytes)) None) least
        ∙ ap (λ (y : Bool). cond y (marker_following ds (drop (length ds) bytes)) None) e

    -- the item after the digits
    numbered : List Cell → Option ItemPassed
    numbered left = item_numbered interrupting p ds (length ds) front' left q'

    taken-is : TakesDigits line 9 bytes q stop ds →
        item_valued interrupting p front cells q ≡ numbered (spread line (drop (length ds) bytes) q' ++ stop)
    taken-is takes =
        let whole : List ℕ → ℕ → Point → List Cell → Option ItemPassed =
        λ digits size r left. item_numbered interrupting p digits size
        (front ++ enter n.ListItemPrefix q ∷ pair n.ListItemValue q r) left r in
        ap (λ (x : List ℕ). whole x (digits_size 9 cells) (digits_end 9 cells q) (digits_rest 9 cells)) takes.are
        ∙ ap (λ (x : ℕ). whole ds x (digits_end 9 cells q) (digits_rest 9 cells)) takes.size
        ∙ ap (λ (x : Point). whole ds (length ds) x (digits_rest 9 cells)) takes.end
        ∙ ap (λ (x : List Cell). whole ds (length ds) q' x) takes.left

    found : (m : ℕ) (ms : List ℕ) → drop (length ds) bytes ≡ m ∷ ms → ends_value m ≡ true → length ds ≤ 9 →
        length (spread line (m ∷ ms) q' ++ stop) ≤ length cells →
        (o : Option ItemPassed) (t : Option Taken) →
        ItemAgrees (HasItemMarker line text past ds m ms q' stop front') o t →
        ItemAgrees (HasItem line text past bytes q stop front) o t
    found m ms e ends few size None None item = tt
    found m ms e ends few size None (Some t) item = absurd item
    found m ms e ends few size (Some o) None item = absurd item
    found m ms e ends few size (Some o) (Some t) item =
        let are : bytes ≡ ds ++ (m ∷ ms) = has.bytes_are ∙ ap (λ (l : List ℕ). ds ++ l) e in
        record {
          leaves = record {
            container = item.leaves.container;
            fed = item.leaves.fed;
            valid = item.leaves.valid;
            ends =
                item.leaves.ends ∙ sym (past_text-append ds (m ∷ ms) q) ∙ ap (λ (l : List ℕ). past_text l q) (sym are);
            no_ending = item.leaves.no_ending;
            shorter = omega (arith, size, item.leaves.shorter);
          };
          fewer = omega (arith, size, item.fewer);
          digits = ds;
          byte = m;
          more = ms;
          bytes_are = are;
          marker = digits-marker ds m some has.all few ends;
          item = item.item;
          events = item.events ∙ digits-events ds front _ q some;
          white = item.white;
          padded = item.padded;
        }

    ended : (left : List Cell) → starts ends_value left ≡ false → Agrees (numbered left) None
    ended left e = subst (λ (o : Option ItemPassed). Agrees o None)
        (sym (numbered-none interrupting p ds (length ds) front' left q' e)) tt

    -- by what follows them
    following-them : (more : List ℕ) → drop (length ds) bytes ≡ more → length ds ≤ 9 →
        length (spread line more q' ++ stop) ≤ length cells →
        Agrees (numbered (spread line more q' ++ stop)) (marker_following ds more)
    following-them [] e few size = ended stop (starts-stop ends_value stop refl k)
    following-them (m ∷ ms) e few size = by (ends_value m) refl
      where
        by : (x : Bool) → ends_value m ≡ x →
            Agrees (numbered (spread line (m ∷ ms) q' ++ stop))
            (cond x (Some (record { digits = ds; byte = m })) None)
        by false f =
            ended (spread line (m ∷ ms) q' ++ stop) (starts-spread ends_value line m ms q' stop ∙ f)
        by true f =
            let valid : RestAt text past (rest (column + length ds) (m ∷ ms)) q' =
            subst (λ (l : List ℕ). RestAt text past (rest (column + length ds) l) q') e has.valid in
            let next : drop (length ds + 1) bytes ≡ ms = past-next (length ds) bytes m ms e in
            let after : following (length ds + 1) from ≡ rest (column + length ds + 1) ms =
            ap₂ (λ (c : ℕ) (l : List ℕ). rest c l) (omega arith) next in
            let place = valid.column in
            let start = is.column in
            let none : NoEnding (m ∷ ms) = subst NoEnding e (no_ending-drop (length ds) bytes h) in
            let item = numbered-agrees options interrupting line text past (column + length ds) m ms q' stop p before
            from ds front' valid none.1 k (omega (arith, place, start, at)) some first after plain f in
            subst (λ (l : List Cell). Agrees (numbered l) (Some (record { digits = ds; byte = m })))
            (sym (spread-one line m ms q' stop (ends-dark m f)))
            (found m ms e f few size _ _ item)

    go : (x : Bool) → nat_le (length ds) 9 ≡ x →
        Agrees (item_valued interrupting p front cells q)
        (cond (nat_le 1 (length ds) && nat_le (length ds) 9) (marker_following ds (drop (length ds) bytes)) None)
    go false e =
        let many : 9 < length ds = grind (arith, nat_tests) in
        subst (Agrees (item_valued interrupting p front cells q)) (sym (one false e))
        (subst (λ (o : Option ItemPassed). Agrees o None)
        (sym
        (numbered-none interrupting p (digits_of 9 cells) (digits_size 9 cells)
        (front ++ enter n.ListItemPrefix q ∷ pair n.ListItemValue q (digits_end 9 cells q)) (digits_rest 9 cells)
        (digits_end 9 cells q) (starts-no_end (digits_rest 9 cells) (has.over many))))
        tt)
    go true e =
        let few : length ds ≤ 9 = grind (arith, nat_tests) in
        let takes = has.within few in
        let less = digits-length 9 cells in
        let size = ap length takes.left in
        subst (Agrees (item_valued interrupting p front cells q)) (sym (one true e))
        (subst (λ (o : Option ItemPassed). Agrees o (marker_following ds (drop (length ds) bytes)))
        (sym (taken-is takes))
        (following-them (drop (length ds) bytes) refl few (omega (arith, less, size))))

-- After the indent.

following-none : (options : ParseOptions) (interrupting : Bool) (p : Point) (front : List Event) (cells : List Cell)
    (q : Point) →
    starts is_bullet cells ≡ false → starts is_digit cells ≡ false →
    item_after options interrupting p front cells q ≡ None
following-none options interrupting p front [] q e f = refl
following-none options interrupting p front (c ∷ cs) q e f = rw (e, f) refl

-- digits that do not begin with 1 interrupt no text
late-digits : (options : ParseOptions) (before : ℕ) (from : Rest) (b : ℕ) (ds bytes : List ℕ) → (b == 49) ≡ false →
    options.constructs.thematic_break && is_rule from.bytes ≡ false →
    item_by options true before from (marker_following (b ∷ ds) bytes) ≡ None
late-digits options before from b ds [] e plain = refl
late-digits options before from b ds (m ∷ ms) e plain = go (ends_value m)
  where
    after : Rest
    after = following (length (b ∷ ds) + 1) from

    speaks : (ds : List ℕ) → may_interrupt (record { digits = b ∷ ds; byte = m }) after ≡ false
    speaks [] = ap (λ (x : Bool). not (is_blank after.bytes) && x) e ∙ and-false (not (is_blank after.bytes))
    speaks (c ∷ ds) = and-false (not (is_blank after.bytes))

    go : (x : Bool) →
        item_by options true before from (cond x (Some (record { digits = b ∷ ds; byte = m })) None) ≡ None
    go true = refused-by options before from after (record { digits = b ∷ ds; byte = m }) plain (speaks ds)
    go false = refl

following-agrees : (options : ParseOptions) (interrupting : Bool) (line : Line) (text past : List ℕ) (column : ℕ)
    (bytes : List ℕ) (q : Point) (stop : List Cell) (p : Point) (before : ℕ) (front : List Event) →
    RestAt text past (rest column bytes) q → Bare 0 bytes → NoEnding bytes → Stops stop →
    q.column ≡ p.column + before →
    ItemAgrees (HasItem line text past bytes q stop front)
    (item_after options interrupting p front (spread line bytes q ++ stop) q)
    (item_by options interrupting before (rest column bytes) (list_marker bytes))
following-agrees options interrupting line text past column [] q stop p before front is dark h k at =
    subst (λ (o : Option ItemPassed). ItemAgrees (HasItem line text past [] q stop front) o None)
    (sym
    (following-none options interrupting p front stop q (starts-stop is_bullet stop refl k)
    (starts-stop is_digit stop refl k)))
    tt
following-agrees options interrupting line text past column (b ∷ bs) q stop p before front is dark h k at =
    go (is_bullet b) (is_digit b) interrupting (b == 49) refl refl refl refl
  where
    cells : List Cell
    cells = spread line (b ∷ bs) q ++ stop

    c : Cell
    c = cell b (past_byte b q) line

    cs : List Cell
    cs = spread line bs (past_byte b q) ++ stop

    ds : List ℕ
    ds = take_while is_digit (b ∷ bs)

    from : Rest
    from = rest column (b ∷ bs)

    breaks : Bool
    breaks = options.constructs.thematic_break

    Agrees : Bool → Option ItemPassed → Option Marker → Type 0
    Agrees i o m = ItemAgrees (HasItem line text past (b ∷ bs) q stop front) o (item_by options i before from m)

    marked : Bool → Option ItemPassed
    marked i = item_marked i p [] (front ++ enter n.ListItemPrefix q ∷ []) c cs q

    numbers : Option Marker
    numbers = cond (nat_le 1 (length ds) && nat_le (length ds) 9) (marker_following ds (drop (length ds) (b ∷ bs))) None

    bullet-is : (i : Bool) → is_bullet b ≡ true →
        item_after options i p front cells q ≡ cond (breaks && is_rule (b ∷ bs)) None (marked i)
    bullet-is i e =
        ap (λ (l : List Cell). item_after options i p front l q) (spread-one line b bs q stop dark)
        ∙ ap
        (λ (x : Bool).
        cond x (cond (breaks && is_rule (line_bytes (c ∷ cs))) None (marked i))
        (cond (is_digit b && (not i || (b == 49))) (item_valued i p front (c ∷ cs) q) None))
        e
        ∙ ap (λ (x : Bool). cond (breaks && x) None (marked i))
        (ap (λ (l : List Cell). is_rule (line_bytes l)) (sym (spread-one line b bs q stop dark))
        ∙ rule-spread line b bs q stop h k e)

    other-is : (i x y : Bool) → is_bullet b ≡ false → is_digit b ≡ x → (b == 49) ≡ y →
        item_after options i p front cells q ≡ cond (x && (not i || y)) (item_valued i p front cells q) None
    other-is i x y e f g =
        ap (λ (l : List Cell). item_after options i p front l q) (spread-one line b bs q stop dark)
        ∙ ap
        (λ (t : Bool).
        cond t (cond (breaks && is_rule (line_bytes (c ∷ cs))) None (marked i))
        (cond (is_digit b && (not i || (b == 49))) (item_valued i p front (c ∷ cs) q) None))
        e
        ∙ ap₂ (λ (s t : Bool). cond (s && (not i || t)) (item_valued i p front (c ∷ cs) q) None) f g
        ∙ ap (λ (l : List Cell). cond (x && (not i || y)) (item_valued i p front l q) None)
        (sym (spread-one line b bs q stop dark))

    plain : is_digit b ≡ true → breaks && is_rule (b ∷ bs) ≡ false
    plain e = and_right breaks (is_rule (b ∷ bs)) (rw (digit-no_rule b e) refl)

    digits-are : (x : Bool) → is_digit b ≡ x → ds ≡ cond x (b ∷ take_while is_digit bs) []
    digits-are x e =
        take_while-cons is_digit b bs ∙ ap (λ (t : Bool). cond t (b ∷ take_while is_digit bs) []) e

    -- which marker the definition has
    bullet-marker : is_bullet b ≡ true → list_marker (b ∷ bs) ≡ Some (record { digits = []; byte = b })
    bullet-marker e = ap (λ (x : Bool). cond x (Some (record { digits = []; byte = b })) numbers) e

    other-marker : is_bullet b ≡ false → list_marker (b ∷ bs) ≡ numbers
    other-marker e = ap (λ (x : Bool). cond x (Some (record { digits = []; byte = b })) numbers) e

    none-numbers : is_digit b ≡ false → numbers ≡ None
    none-numbers e =
        ap
        (λ (l : List ℕ).
        cond (nat_le 1 (length l) && nat_le (length l) 9) (marker_following l (drop (length l) (b ∷ bs))) None)
        (digits-are false e)

    late-numbers : is_digit b ≡ true → (b == 49) ≡ false → item_by options true before from numbers ≡ None
    late-numbers e g =
        subst
        (λ (l : List ℕ).
        item_by options true before from
        (cond (nat_le 1 (length l) && nat_le (length l) 9) (marker_following l (drop (length l) (b ∷ bs))) None) ≡
        None)
        (sym (digits-are true e)) (by (nat_le 1 (length more) && nat_le (length more) 9))
      where
        more : List ℕ
        more = b ∷ take_while is_digit bs

        by : (x : Bool) →
            item_by options true before from (cond x (marker_following more (drop (length more) (b ∷ bs))) None) ≡ None
        by true =
            late-digits options before from b (take_while is_digit bs) (drop (length more) (b ∷ bs)) g (plain e)
        by false = refl

    valued : (i : Bool) → is_digit b ≡ true → (not i || (b == 49)) ≡ true →
        Agrees i (item_valued i p front cells q) numbers
    valued i e first =
        let same = digits-are true e in
        let size = ap length same in
        by-digits options i line text past column (b ∷ bs) q stop p before front ds is h k at
        (digits-walk line text past 9 column (b ∷ bs) q stop is k) (omega (arith, size))
        (ap (λ (l : List ℕ). not i || begins_with 49 l) same ∙ first) (plain e)

    go : (x y i z : Bool) → is_bullet b ≡ x → is_digit b ≡ y → interrupting ≡ i → (b == 49) ≡ z →
        Agrees interrupting (item_after options interrupting p front cells q) (list_marker (b ∷ bs))
    go true y i z e f g l =
        subst (Agrees interrupting (item_after options interrupting p front cells q)) (sym (bullet-marker e))
        (subst (λ (o : Option ItemPassed). Agrees interrupting o (Some (record { digits = []; byte = b })))
        (sym (bullet-is interrupting e))
        (bullet-agrees options interrupting line text past column b bs q stop p before front is h k at e))
    go false false i z e f g l =
        subst (Agrees interrupting (item_after options interrupting p front cells q))
        (sym (other-marker e ∙ none-numbers f))
        (subst (λ (o : Option ItemPassed). Agrees interrupting o None)
        (sym (other-is interrupting false z e f l)) tt)
    go false true false z e f g l =
        subst (Agrees interrupting (item_after options interrupting p front cells q)) (sym (other-marker e))
        (subst (λ (i : Bool). Agrees i (item_after options i p front cells q) numbers) (sym g)
        (subst (λ (o : Option ItemPassed). Agrees false o numbers) (sym (other-is false true z e f l))
        (valued false f refl)))
    go false true true true e f g l =
        subst (Agrees interrupting (item_after options interrupting p front cells q)) (sym (other-marker e))
        (subst (λ (i : Bool). Agrees i (item_after options i p front cells q) numbers) (sym g)
        (subst (λ (o : Option ItemPassed). Agrees true o numbers) (sym (other-is true true true e f l))
        (valued true f l)))
    go false true true false e f g l =
        subst (Agrees interrupting (item_after options interrupting p front cells q)) (sym (other-marker e))
        (subst (λ (i : Bool). Agrees i (item_after options i p front cells q) numbers) (sym g)
        (subst (λ (o : Option ItemPassed). Agrees true o numbers) (sym (other-is true true false e f l))
        (subst (ItemAgrees (HasItem line text past (b ∷ bs) q stop front) None) (sym (late-numbers f l)) tt)))

-- The whole item.

-- a prefix is here, after the begin of the item, and so much is left of the line after it
pub record OpensItem (line : Line) (text past : List ℕ) (p end : Point) (stop cells : List Cell)
    (passed : ItemPassed) (taken : Taken) : Type 0 where
  pub leaves : LeavesRest line text past end stop cells passed taken
  pub fewer : length passed.cells < length cells
  -- the digits and the marker, where they begin, and the bytes there
  pub digits : List ℕ
  pub byte : ℕ
  pub value : Point
  pub value_is : value ≡ white_end (length cells) cells p
  pub more : List ℕ
  pub text_is : drop value.index text ≡ digits ++ (byte ∷ more)
  -- what of them is on the line, and the padding
  pub line_more : List ℕ
  pub more_is : more ≡ line_more ++ past
  pub padded :
      PaddedFrom line text past line_more (past_byte byte (past_text digits value)) stop passed.point taken.rest
  pub whole : value.vs ≡ 0
  pub marker : IsMarker digits byte
  pub item : (width : ℕ) × (blank : Bool) × (passed.container ≡ InItem digits byte width blank)
  pub events : passed.events ≡
      enter n.ListItem p ∷ (pair_unless_empty n.SpaceOrTab p value ++ prefix_of digits byte value passed.point)
  -- whitespace is before the prefix and after the marker
  pub white_before : White text p value
  pub white_after : White text (past_byte byte (past_text digits value)) passed.point

white-no_bullet : (cells : List Cell) → begins_white cells ≡ true → starts is_bullet cells ≡ false
white-no_bullet [] e = refl
white-no_bullet (c ∷ cs) e = white-bullet c.byte e

white-no_digit : (cells : List Cell) → begins_white cells ≡ true → starts is_digit cells ≡ false
white-no_digit [] e = refl
white-no_digit (c ∷ cs) e = white-digit c.byte e

-- it opens by the cells of a line where it does by the rest of the line
pub opens-agrees : (options : ParseOptions) (interrupting : Bool) (line : Line) (text past : List ℕ) (r : Rest)
    (stop : List Cell) (p : Point) →
    RestAt text past r p → NoEnding r.bytes → Stops stop → length (rest_cells line r p ++ stop) < 2 ^ 63 →
    let cells = rest_cells line r p ++ stop in
    ItemAgrees (OpensItem line text past p (past_rest r p) stop cells) (item_new options interrupting cells p)
    (opens_item options interrupting r)
unfolding opens_item
opens-agrees options interrupting line text past r stop p is h k short = go options.constructs.list_item
  where
    cells : List Cell
    cells = rest_cells line r p ++ stop

    q : Point
    q = white_end (small_indent options) cells p

    front : List Event
    front = enter n.ListItem p ∷ indent_events options cells p

    Agrees : Option ItemPassed → Option Taken → Type 0
    Agrees o t = ItemAgrees (OpensItem line text past p (past_rest r p) stop cells) o t

    new : List Cell → Point → Option ItemPassed
    new left at = item_after options interrupting p front left at

    found : Rest → Option Taken
    found from = item_by options interrupting (indent r) from (list_marker from.bytes)

    whole : (bytes : List ℕ) → IsAfter line text past r p stop bytes q → (o : Option ItemPassed) (t : Option Taken) →
        ItemAgrees (HasItem line text past bytes q stop front) o t → Agrees o t
    whole bytes at None None item = tt
    whole bytes at None (Some t) item = absurd item
    whole bytes at (Some o) None item = absurd item
    whole bytes at (Some o) (Some t) item = record {
      leaves = record {
        container = item.leaves.container;
        fed = item.leaves.fed;
        valid = item.leaves.valid;
        ends = item.leaves.ends ∙ at.ends;
        no_ending = item.leaves.no_ending;
        shorter = let size = at.shorter in omega (arith, size, item.leaves.shorter);
      };
      fewer = let size = at.shorter in omega (arith, size, item.fewer);
      digits = item.digits;
      byte = item.byte;
      value = q;
      value_is = at.end_is;
      more = item.more ++ past;
      line_more = item.more;
      more_is = refl;
      padded = item.padded;
      text_is =
          at.valid.text_is ∙ ap (λ (l : List ℕ). l ++ past) item.bytes_are
          ∙ append_assoc item.digits (item.byte ∷ item.more) past;
      whole = at.valid.cut;
      marker = item.marker;
      item = item.item;
      events =
          item.events
          ∙ ap (λ (es : List Event). enter n.ListItem p ∷ (es ++ prefix_of item.digits item.byte q o.point))
          at.walked.events;
      white_before = at.walked.white;
      white_after = item.white;
    }

    go : (x : Bool) →
        Agrees (cond x (new (white_rest (small_indent options) cells) q) None)
        (cond (x && has_small_indent options r) (found (after_indent r)) None)
    go false = tt
    go true =
        following-indent options line text past r stop p Agrees new found is h k short tt
        (λ left over.
        following-none options interrupting p front left q (white-no_bullet left over) (white-no_digit left over))
        (λ bytes at.
        whole bytes at _ _
        (following-agrees options interrupting line text past (after_indent r).column bytes q stop p (indent r) front
        at.valid at.dark at.no_ending k at.column))
