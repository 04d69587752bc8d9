-- Cells of a line that end where a byte does: the rest of the line after them is there.
use Rattle.std.proofs.Common.{◌≡◌, ◌≢◌, ℕ, zero, suc, ◌+◌, ◌-◌, ◌<◌, ◌≤◌, Bool, true, false, cond, List, [], ◌∷◌, ◌++◌}
use Rattle.std.proofs.Common.{length, take, drop, refl, sym, ap, ◌∙◌, subst, arith, append_assoc}
use Rattle.std.specs.Prelude.{◌==◌}
use Rattle.std.proofs.lemmas.List.{append_cancel_left, drop-drop, drop_at, length-append, take_at, take-append-drop}
use Rattle.std.proofs.Math.Seq.{drop-append_seam}
use Rattle.md_engine.specs.declared.event.Point.{Point}
use Rattle.md_engine.specs.declared.tokenizer.Line.{Line}
use Rattle.md_engine.specs.Meaning.{Cell}
use Rattle.md_meaning.specs.Rest.{Rest, cut_tab}
use Rattle.md_meaning.proofs.TextsLemmas.{NoEnding}
use Rattle.md_events.specs.Ahead.{point_after}
use Rattle.md_events.specs.Events.Places.{columns_from, past_byte, past_text}
use Rattle.md_events.proofs.FeedLines.{NoFeed, Stops, byte_cells, cell, columns_more, no_feed-spread, spread}
use Rattle.md_events.proofs.FeedLines.{tab_cells, tab_end, tab_end-stop}
use Rattle.md_events.proofs.InlineLemmas.{past-index}
use Rattle.md_events.proofs.PlacesLemmas.{placed-text}
use Rattle.md_events.proofs.RestCells.{Cut, cells_by, past_cut, rest_cells}
use Rattle.md_events.specs.Exact.Places.{TextLine, past}
use Rattle.proof_exact_pieces.proofs.OnLine.{OnLine, past-line}
use Rattle.proof_exact_pieces.proofs.PieceLemmas.{same-spaces}
use Rattle.proof_exact_pieces.proofs.PlaceLemmas.{past-column}
use Rattle.proof_content_laws.proofs.Defined.Along.{Valid, Steps, no_line}
use Rattle.proof_content_laws.proofs.Defined.Runs.{RunOf, run-of}
use Rattle.proof_content_laws.proofs.Defined.Strands.{run-some}

-- After so many bytes of a rest, what is left of a cut tab before them.

-- the columns of what is left of it
cut-columns : (spaces c : ℕ) (p : Point) (bytes : List ℕ) → p.column ≡ c + 1 → Cut spaces p →
    columns_from (p.column - 1) (cut_tab spaces ++ bytes) ≡ columns_from (c + spaces) bytes
cut-columns zero c p bytes e cut = ap (λ (n : ℕ). columns_from n bytes) (omega (arith, e))
cut-columns (suc n) c p bytes e cut =
    let more = cut.1 in ap (λ (m : ℕ). columns_from m bytes) (omega (arith, e, more))

cut-plain : (spaces : ℕ) (bytes : List ℕ) → NoEnding bytes → NoEnding (cut_tab spaces ++ bytes)
cut-plain zero bytes h = h
cut-plain (suc n) bytes h = (refl, h)

pub past-cut : (text following : List ℕ) (line : TextLine) (n : ℕ) (r : Rest) (p : Point) →
    OnLine text following line r p →
    NoEnding (take n r.bytes) → (past_text (cut_tab r.spaces ++ take n r.bytes) p).vs ≡ 0 →
    OnLine text following line (past n r) (past_text (cut_tab r.spaces ++ take n r.bytes) p)
past-cut text following line n r p on plain whole = record {
  valid = record {
    column =
        past-column front p (omega (arith, on.valid.column))
        ∙ ap (λ (c : ℕ). c + 1) (cut-columns r.spaces r.column p (take n r.bytes) on.valid.column on.valid.cut);
    cut = whole;
    text_is =
        ap (λ (i : ℕ). drop i text) (past-index front p) ∙ sym (drop-drop (length front) p.index text)
        ∙ ap (drop (length front)) parts
        ∙ drop-append_seam front (drop n r.bytes ++ following);
  };
  placed =
      placed-text text p front (drop n r.bytes ++ following) on.placed parts
      (cut-plain r.spaces (take n r.bytes) plain);
  onward = let index = past-index front p in omega (arith, on.onward, index);
  number = past-line front p ∙ on.number;
}
  where
    front : List ℕ
    front = cut_tab r.spaces ++ take n r.bytes

    parts : drop p.index text ≡ front ++ (drop n r.bytes ++ following)
    parts =
        on.valid.text_is
        ∙ ap (λ (l : List ℕ). (cut_tab r.spaces ++ l) ++ following) (sym (take-append-drop n r.bytes))
        ∙ simp append_assoc

-- The bytes of cells before others.

pub first-none : (xs ys : List Cell) → xs ++ ys ≡ [] → xs ≡ []
first-none [] ys e = refl
first-none (x ∷ xs) ys e = cc

pub byte-some : (line : Line) (b : ℕ) (p : Point) → byte_cells line b p ≢ []
byte-some line b p = go (b == 9) (columns_more p)
  where
    go : (x : Bool) (n : ℕ) → cond x (tab_cells line n 9 p) (cell b (past_byte b p) line ∷ []) ≡ [] → ⊥
    go true zero e = cc
    go true (suc n) e = cc
    go false n e = cc

-- where cells of a line continue it has not ended
fed : (xs rest stop : List Cell) → NoFeed xs → xs ≢ [] → Stops stop → stop ≡ xs ++ rest → ⊥
fed [] rest stop none some stops e = some refl
fed (x ∷ xs) rest [] none some stops e = cc
fed (x ∷ xs) rest (c ∷ cs) none some stops e =
    let same : c ≡ x = cc in
    let no : true ≡ false = sym stops ∙ ap (λ (d : Cell). d.byte == 10) same ∙ none.0 in cc

-- these bytes are the first of those
record Front (line : Line) (bytes text : List ℕ) (rest stop : List Cell) (p : Point) : Type 0 where
  more : List ℕ
  bytes_are : bytes ≡ text ++ more
  rest_is : rest ≡ spread line more (past_text text p) ++ stop

front-then : (line : Line) (b c : ℕ) (bs cs : List ℕ) (rest stop : List Cell) (p : Point) → c ≡ b →
    Front line cs bs rest stop (past_byte b p) → Front line (c ∷ cs) (b ∷ bs) rest stop p
front-then line b c bs cs rest stop p same more = record {
  more = more.more;
  bytes_are = ap (λ (x : ℕ). x ∷ cs) same ∙ ap (λ (l : List ℕ). b ∷ l) more.bytes_are;
  rest_is = more.rest_is;
}

front-of : (line : Line) (text bytes tail following : List ℕ) (rest stop : List Cell) (p : Point) → NoEnding text →
    Stops stop → text ++ tail ≡ bytes ++ following → spread line bytes p ++ stop ≡ spread line text p ++ rest →
    Front line bytes text rest stop p
front-of line [] bytes tail following rest stop p none stops e k =
    record { more = bytes; bytes_are = refl; rest_is = sym k }
front-of line (b ∷ bs) [] tail following rest stop p none stops e k =
    absurd
    (fed (spread line (b ∷ bs) p) rest stop (no_feed-spread line (b ∷ bs) p none)
    (λ l. byte-some line b p (first-none (byte_cells line b p) (spread line bs (past_byte b p)) l)) stops k)
front-of line (b ∷ bs) (c ∷ cs) tail following rest stop p none stops e k =
    let same : c ≡ b = cc in
    let tails : bs ++ tail ≡ cs ++ following = cc in
    let q = past_byte b p in
    let cells : byte_cells line b p ++ (spread line cs q ++ stop) ≡ byte_cells line b p ++ (spread line bs q ++ rest) =
    sym (append_assoc (byte_cells line b p) (spread line cs q) stop)
    ∙ ap (λ (x : ℕ). (byte_cells line x p ++ spread line cs (past_byte x p)) ++ stop) (sym same)
    ∙ k ∙ append_assoc (byte_cells line b p) (spread line bs q) rest in
    front-then line b c bs cs rest stop p same
    (front-of line bs cs tail following rest stop q none.1 stops tails
    (append_cancel_left (byte_cells line b p) (spread line cs q ++ stop) (spread line bs q ++ rest) cells))

-- Cells of a line.

-- after what is left of a cut tab
cut-end : (spaces : ℕ) (p : Point) (bytes : List ℕ) → 1 ≤ p.column → Cut spaces p →
    past_text bytes (past_cut spaces p) ≡ past_text (cut_tab spaces ++ bytes) p
cut-end zero p bytes one cut = refl
cut-end (suc n) p bytes one cut =
    ap (past_text bytes) (ap (λ (m : ℕ). tab_end m p) cut.1 ∙ tab_end-stop p one)

cut-cells : (spaces : ℕ) (bytes text : List ℕ) (p : Point) (stop rest : List Cell) →
    cells_by no_line spaces bytes p ++ stop ≡ cells_by no_line spaces text p ++ rest →
    spread no_line bytes (past_cut spaces p) ++ stop ≡ spread no_line text (past_cut spaces p) ++ rest
cut-cells zero bytes text p stop rest e = e
cut-cells (suc n) bytes text p stop rest e =
    let q = tab_end n p in
    let front = tab_cells no_line n 32 p in
    append_cancel_left front (spread no_line bytes q ++ stop) (spread no_line text q ++ rest)
    (sym (append_assoc front (spread no_line bytes q) stop) ∙ e ∙ append_assoc front (spread no_line text q) rest)

-- Some cells of it, and those of the rest after them.
pub record RestOn (text following : List ℕ) (line : TextLine) (r : Rest) (p q : Point) (xs rest stop : List Cell) :
    Type 0 where
  pub size : ℕ
  pub fits : size ≤ length r.bytes
  pub on : OnLine text following line (past size r) q
  pub cells : rest ≡ rest_cells no_line (past size r) q ++ stop
  pub index : q.index ≡ p.index + length (cut_tab r.spaces ++ take size r.bytes)
  pub some : xs ≢ [] → p.index < q.index

-- some cells have bytes
some-bytes : (xs : List Cell) (p : Point) (spaces : ℕ) (bytes : List ℕ) → xs ≢ [] →
    xs ≡ cells_by no_line spaces bytes p → 0 < length (cut_tab spaces ++ bytes)
some-bytes [] p spaces bytes some e = absurd (some refl)
some-bytes (x ∷ xs) p spaces bytes some e = go (cut_tab spaces ++ bytes) (run-some x xs p spaces bytes e)
  where
    go : (l : List ℕ) → l ≢ [] → 0 < length l
    go [] h = absurd (h refl)
    go (y ∷ ys) h = omega arith

pub rest-on : (text following : List ℕ) (line : TextLine) (r : Rest) (p : Point) (xs rest stop : List Cell) →
    OnLine text following line r p → Valid text p → Steps text p xs → (point_after xs p).vs ≡ 0 → Stops stop →
    xs ++ rest ≡ rest_cells no_line r p ++ stop → RestOn text following line r p (point_after xs p) xs rest stop
rest-on text following line r p xs rest stop on valid steps whole stops e = record {
  size = length t;
  fits =
      let parts = length-append t front.more in
      let all = ap (λ (l : List ℕ). length l) front.bytes_are in omega (arith, parts, all);
  on =
      subst (OnLine text following line (past (length t) r)) (sym end)
      (past-cut text following line (length t) r p on (subst NoEnding (sym taken) run.no_ending)
      (ap (λ (x : Point). x.vs) (sym end) ∙ whole));
  cells =
      front.rest_is
      ∙ ap (λ (l : List ℕ). spread no_line l (past_text t (past_cut r.spaces p)) ++ stop) (sym left)
      ∙ ap (λ (x : Point). spread no_line (drop (length t) r.bytes) x ++ stop)
      (cut-end r.spaces p t valid.column on.valid.cut ∙ sym ends);
  index = ap (λ (x : Point). x.index) end ∙ past-index (cut_tab r.spaces ++ take (length t) r.bytes) p;
  some = λ some.
      let index = ap (λ (x : Point). x.index) ends ∙ past-index (cut_tab r.spaces ++ t) p in
      let lt = some-bytes xs p r.spaces t some
      (run.cells_are ∙ ap (λ (n : ℕ). cells_by no_line n t p) spaces) in
      omega (arith, index, lt);
}
  where
    q : Point
    q = point_after xs p

    run : RunOf text p q xs
    run = run-of text p xs valid steps whole

    t : List ℕ
    t = run.text

    spaces : run.spaces ≡ r.spaces
    spaces = same-spaces run.spaces r.spaces p run.cut on.valid.cut

    bytes : t ++ drop q.index text ≡ r.bytes ++ following
    bytes =
        append_cancel_left (cut_tab r.spaces) (t ++ drop q.index text) (r.bytes ++ following)
        (sym (append_assoc (cut_tab r.spaces) t (drop q.index text))
        ∙ ap (λ (n : ℕ). (cut_tab n ++ t) ++ drop q.index text) (sym spaces) ∙ sym run.here ∙ on.valid.text_is
        ∙ append_assoc (cut_tab r.spaces) r.bytes following)

    front : Front no_line r.bytes t rest stop (past_cut r.spaces p)
    front =
        front-of no_line t r.bytes (drop q.index text) following rest stop
        (past_cut r.spaces p) run.no_ending stops bytes
        (cut-cells r.spaces r.bytes t p stop rest
        (sym e ∙ ap (λ (l : List Cell). l ++ rest) run.cells_are
        ∙ ap (λ (n : ℕ). cells_by no_line n t p ++ rest) spaces))

    taken : take (length t) r.bytes ≡ t
    taken = ap (take (length t)) front.bytes_are ∙ take_at t front.more (length t) refl

    left : drop (length t) r.bytes ≡ front.more
    left = ap (drop (length t)) front.bytes_are ∙ drop_at t front.more (length t) refl

    ends : q ≡ past_text (cut_tab r.spaces ++ t) p
    ends = run.end ∙ ap (λ (n : ℕ). past_text (cut_tab n ++ t) p) spaces

    end : q ≡ past_text (cut_tab r.spaces ++ take (length t) r.bytes) p
    end = ends ∙ ap (λ (l : List ℕ). past_text (cut_tab r.spaces ++ l) p) (sym taken)
