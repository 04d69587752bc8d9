-- The line of an ATX heading (CommonMark 4.2): what is in it is the parts of the heading on that line.
use Rattle.std.proofs.Common.{◌≡◌, ℕ, suc, ◌+◌, Bool, false, cond, List, [], ◌∷◌, ◌++◌, length, take, drop, refl, sym}
use Rattle.std.proofs.Common.{ap, ap₂, ◌∙◌, append_assoc, Some, None, take-add, arith}
use Rattle.std.specs.Prelude.{◌==◌}
use Rattle.std.specs.List.{AllPass}
use Rattle.std.proofs.lemmas.Bool.Decides.{nat_tests}
use Rattle.std.proofs.lemmas.List.{drop_at, take_at}
use Rattle.md_engine.specs.declared.event.Content.TheVariants.{Text}
use Rattle.md_engine.specs.declared.event.Event.{Event}
use Rattle.md_engine.specs.declared.event.Name.TheVariants as n
use Rattle.md_engine.specs.declared.event.Point.{Point}
use Rattle.md_leaves.specs.HeadingRuns.{Apart, chunk_unless_empty, line_runs}
use Rattle.md_leaves.specs.HeadingText.{linked_text}
use Rattle.md_leaves.specs.HeadingTitle.{front_len, text_of, title_of, unread_title}
use Rattle.md_leaves.proofs.TitleLemmas.{parts-drop, parts-take, title-text}
use Rattle.md_leaves.proofs.TitleRuns.{hash-runs, is_hash, pass-first, three-runs, white-runs}
use Rattle.md_leaves.proofs.TitleTexts.{Parted, Shape, parted}
use Rattle.md_leaves.proofs.HeadingLemmas.{white-no_hash}
use Rattle.md_meaning.specs.Bytes.{begins}
use Rattle.md_meaning.specs.Leaves.{heading_text}
use Rattle.md_meaning.specs.Rest.{Rest, after_indent, cut_tab, is_white, run_len}
use Rattle.md_events.specs.Events.Places.{past_text}
use Rattle.md_events.proofs.InlineLemmas.{past_text-append}
use Rattle.proof_frame.specs.LineColumns.{part_over}
use Rattle.md_events.specs.Exact.Leaves.{heading_line}
use Rattle.md_events.specs.Exact.Places.{TextLine, past}
use Rattle.proof_exact_lines.proofs.BeginsAt.{BeginsAt, rest_bytes}
use Rattle.proof_exact_lines.proofs.Parts.{IsAfter, piece-end, past-following, piece-is, run-following}
use Rattle.proof_exact_lines.proofs.Parts.{valid-bytes, text-is, text_over, white-following}

-- Runs of whitespace, of `#` and of whitespace again.

white-over : (bytes : List ℕ) (p : Point) → AllPass is_white bytes →
    line_runs Apart bytes p ≡ part_over n.SpaceOrTab bytes p (past_text bytes p)
white-over [] p h = refl
white-over (b ∷ bytes) p h = white-runs b bytes p h

hashes-over : (bytes : List ℕ) (p : Point) → AllPass is_hash bytes →
    line_runs Apart bytes p ≡ part_over n.HeadingAtxSequence bytes p (past_text bytes p)
hashes-over [] p h = refl
hashes-over (b ∷ bytes) p h = hash-runs b bytes p h

no_hash : (bytes : List ℕ) → AllPass is_white bytes → begins is_hash bytes ≡ false
no_hash [] h = refl
no_hash (b ∷ bytes) h = white-no_hash b (pass-first is_white b bytes h)

-- the parts of them, from a point on
abbrev Three : List ℕ → List ℕ → List ℕ → Point → List Event
Three white hashes more p =
    let q = past_text white p in
    let r = past_text hashes q in
    part_over n.SpaceOrTab white p q
    ++ (part_over n.HeadingAtxSequence hashes q r ++ part_over n.SpaceOrTab more r (past_text more r))

three-over : (white hashes more : List ℕ) (p : Point) → AllPass is_white white → AllPass is_hash hashes →
    AllPass is_white more → begins is_white (hashes ++ more) ≡ false →
    line_runs Apart (white ++ (hashes ++ more)) p ≡ Three white hashes more p
three-over white hashes more p w h m none =
    let q : Point = past_text white p in
    three-runs white hashes more p w h m none
    ∙ ap₂ (λ (es fs : List Event). es ++ fs) (white-over white p w)
    (ap₂ (λ (es fs : List Event). es ++ fs) (hashes-over hashes q h) (white-over more (past_text hashes q) m))

-- The text.
text-linked : (bytes : List ℕ) (p q : Point) →
    text_over Text n.HeadingAtxText bytes p q ≡ linked_text (chunk_unless_empty (length bytes) p q)
text-linked [] p q = refl
text-linked (b ∷ bytes) p q =
    let some : (suc (length bytes) == 0) ≡ false = grind (arith, nat_tests) in
    ap (λ (t : Bool). linked_text (cond t None (Some (record { first = p; after = q })))) (sym some)

-- The whole line.
parts-joined : {a b c d e f g i j k l m o q : List Event} → i ≡ a → j ≡ b → k ≡ c → l ≡ d → m ≡ e → o ≡ f → q ≡ g →
    (((((i ++ j) ++ k) ++ l) ++ m) ++ o) ++ q ≡ ((a ++ (b ++ c)) ++ d) ++ (e ++ (f ++ g))
parts-joined {a} {b} {c} {d} {e} {f} {g} first second third fourth fifth sixth seventh =
    rw (first, second, third, fourth, fifth, sixth, seventh) (simp append_assoc)

pub heading-line : (line : TextLine) (r : Rest) (p : Point) → BeginsAt line r p →
    heading_line line r ≡ unread_title (title_of (rest_bytes r) p)
heading-line line r p at =
    parts-joined
    (piece-is line n.SpaceOrTab r opening p x.indent rest1 at x.whole first)
    (piece-is line n.HeadingAtxSequence opening opened p1 x.hashes rest2 first.valid.at
    (valid-bytes line rest1 p1 opening first.valid) second)
    (piece-is line n.SpaceOrTab opened begin p2 x.gap rest3 second.valid.at
    (valid-bytes line rest2 p2 opened second.valid) third)
    (text-is line Text n.HeadingAtxText begin end p3 text x.back third.valid fourth ∙ text-linked text p3 p4)
    (piece-is line n.SpaceOrTab end closing p4 back.white (back.hashes ++ back.more) fourth.valid.at following fifth)
    (piece-is line n.HeadingAtxSequence closing closed p5 back.hashes back.more fifth.valid.at
    (valid-bytes line (back.hashes ++ back.more) p5 closing fifth.valid) sixth)
    (piece-end line n.SpaceOrTab closed p6 back.more sixth.valid.at left)
    ∙ sym parts
  where
    all : List ℕ
    all = rest_bytes r

    x : Parted all
    x = parted all

    text : List ℕ
    text = text_of all

    back : Shape x.back
    back = x.shape

    rest3 : List ℕ
    rest3 = text ++ x.back

    rest2 : List ℕ
    rest2 = x.gap ++ rest3

    rest1 : List ℕ
    rest1 = x.hashes ++ rest2

    opening : Rest
    opening = after_indent r

    opened : Rest
    opened = past (run_len 35 opening.bytes) opening

    begin : Rest
    begin = after_indent opened

    end : Rest
    end = past (length (heading_text opened.bytes)) begin

    closing : Rest
    closing = after_indent end

    closed : Rest
    closed = past (run_len 35 closing.bytes) closing

    p1 : Point
    p1 = past_text x.indent p

    p2 : Point
    p2 = past_text x.hashes p1

    p3 : Point
    p3 = past_text x.gap p2

    p4 : Point
    p4 = past_text text p3

    p5 : Point
    p5 = past_text back.white p4

    p6 : Point
    p6 = past_text back.hashes p5

    first : IsAfter line r x.indent rest1 p opening
    first = white-following line r p x.indent rest1 at x.whole x.indent_is x.after_indent

    second : IsAfter line opening x.hashes rest2 p1 opened
    second = run-following is_hash line opening p1 x.hashes rest2 first.valid x.hashes_are x.after_hashes

    third : IsAfter line opened x.gap rest3 p2 begin
    third =
        white-following line opened p2 x.gap rest3 second.valid.at (valid-bytes line rest2 p2 opened second.valid)
        x.gap_is x.following_gap

    size : length text ≡ length (heading_text opened.bytes)
    size =
        ap (λ (l : List ℕ). length l) x.text_is
        ∙ ap (λ (l : List ℕ). length (heading_text l)) (sym second.valid.bytes_are)

    fourth : IsAfter line begin text x.back p3 end
    fourth =
        past-following line begin p3 (length (heading_text opened.bytes)) text x.back third.valid.at
        (ap (λ (k : ℕ). cut_tab k ++ take (length (heading_text opened.bytes)) begin.bytes) third.valid.whole
        ∙ ap (take (length (heading_text opened.bytes))) third.valid.bytes_are
        ∙ take_at text x.back (length (heading_text opened.bytes)) size)
        (ap (drop (length (heading_text opened.bytes))) third.valid.bytes_are
        ∙ drop_at text x.back (length (heading_text opened.bytes)) size)

    following : rest_bytes end ≡ back.white ++ (back.hashes ++ back.more)
    following = valid-bytes line x.back p4 end fourth.valid ∙ back.is

    fifth : IsAfter line end back.white (back.hashes ++ back.more) p4 closing
    fifth =
        white-following line end p4 back.white (back.hashes ++ back.more) fourth.valid.at following
        back.white_is back.apart

    sixth : IsAfter line closing back.hashes back.more p5 closed
    sixth =
        run-following is_hash line closing p5 back.hashes back.more fifth.valid back.hashes_are
        (no_hash back.more back.more_is)

    left : rest_bytes closed ≡ back.more
    left = valid-bytes line back.more p6 closed sixth.valid

    parts : unread_title (title_of all p) ≡
        (Three x.indent x.hashes x.gap p ++ linked_text (chunk_unless_empty (length text) p3 p4))
        ++ Three back.white back.hashes back.more p4
    parts =
        ap₂ (λ (es fs : List Event). es ++ fs)
        (ap₂ (λ (es fs : List Event). es ++ fs)
        (ap (λ (l : List ℕ). line_runs Apart l p) (parts-take all x)
        ∙ three-over x.indent x.hashes x.gap p x.indent_is x.hashes_are x.gap_is x.apart)
        (ap₂ (λ (q e : Point). linked_text (chunk_unless_empty (length text) q e)) from to))
        (ap₂ (λ (l : List ℕ) (q : Point). line_runs Apart l q) (parts-drop all x ∙ back.is) to
        ∙ three-over back.white back.hashes back.more p4 back.white_is back.hashes_are back.more_is back.apart)
      where
        from : past_text (take (front_len all) all) p ≡ p3
        from =
            ap (λ (l : List ℕ). past_text l p) (parts-take all x)
            ∙ past_text-append x.indent (x.hashes ++ x.gap) p
            ∙ past_text-append x.hashes x.gap p1

        to : past_text (take (front_len all + length text) all) p ≡ p4
        to =
            ap (λ (l : List ℕ). past_text l p) (take-add (front_len all) (length text) all)
            ∙ past_text-append (take (front_len all) all) (take (length text) (drop (front_len all) all)) p
            ∙ ap₂ past_text (title-text all) from
