-- A line of the exact list and the cells from which its row is read, and what both agree in.
use Rattle.std.proofs.Common.{◌≡◌, ◌⊎◌, inl, inr, ◌^◌, ◌<◌, ℕ, Bool, true, false, cond, List, [], ◌∷◌, length, refl}
use Rattle.std.proofs.Common.{sym, ap, ◌+◌, ◌∙◌, subst, subst₂}
use Rattle.std.specs.Prelude.{if◌then◌else◌, Option, Some, None}
use Rattle.md_engine.specs.declared.configuration.ParseOptions.{ParseOptions}
use Rattle.md_engine.specs.declared.event.Event.{Event}
use Rattle.md_engine.specs.declared.event.Name.{Name}
use Rattle.md_engine.specs.declared.event.Point.{Point}
use Rattle.md_engine.specs.declared.tokenizer.held_leaf.HeldLeaf.{HeldLeaf}
use Rattle.md_engine.specs.declared.tokenizer.held_leaf.HeldLeaf.TheVariants as held_leaf
use Rattle.md_engine.specs.declared.tokenizer.Line.{Line}
use Rattle.md_engine.specs.Meaning.{Cell}
use Rattle.md_meaning.specs.Bytes.{is_end}
use Rattle.md_meaning.specs.Rest.{Rest}
use Rattle.md_meaning.specs.State.{Container, Path, spot}
use Rattle.md_meaning.specs.Step.{step}
use Rattle.md_events.specs.Events.Nested.{pair}
use Rattle.md_events.specs.Events.Places.{past_text}
use Rattle.md_events.proofs.FeedLines.{Stops}
use Rattle.md_events.specs.Exact.Places.{TextLine, ending, line_end, next_line, place, whole}
use Rattle.md_events.specs.Exact.Rows as exact
use Rattle.md_events.specs.Exact.Rows.{row_of, rows_of}
use Rattle.proof_exact_pieces.proofs.OnLine.{LineIn, OnLine}
use Rattle.proof_exact_pieces.proofs.PlaceLemmas.{line_start}
use Rattle.proof_exact_lines.proofs.Front.{begin}
use Rattle.proof_exact_lines.proofs.BeginsAt.{BeginsAt}
use Rattle.proof_exact_lines.proofs.LeafLines.{ends-at}
use Rattle.proof_exact_lines.proofs.OnLine.{on-begins}
use Rattle.proof_frame.specs.Change.{open_following}
use Rattle.proof_frame.specs.HeldLeaf.{may_continue}
use Rattle.proof_frame.specs.Row.{Row, ending_events}
use Rattle.proof_frame.proofs.RegistryRead.{AreRead}
use Rattle.proof_rows.specs.Fronted.{Contained}
use Rattle.proof_rows.specs.Rows.{closes_before, held_at}
use Rattle.proof_rows.specs.Valid.{containers_of, still_of}
use Rattle.proof_exact.proofs.ExactRoles.{AreMet, IsMet, contained-by, first-role, meets-leaf}
use Rattle.proof_exact.proofs.GroupsMatch.{Pairs}
use Rattle.proof_exact.proofs.RowsMet.{KnowsStep}
use Rattle.proof_exact.proofs.RowRoles.{row_role}
use Rattle.proof_exact.proofs.Endings.{IsLast, IsNamed, name-same}
use Rattle.proof_exact.proofs.Ends.{line-ends}
use Rattle.proof_exact.proofs.Fit.{Fit}
use Rattle.proof_exact.proofs.RowFronts.{IsFronted, further-front, line-fronted, line_cells}

-- These are the cells of a line of a text, where these containers and this leaf are open before it, and this is their
-- row; after its ending the next line begins.
pub record IsFed (options : ParseOptions) (bytes : List ℕ) (open_before : List Container) (still : HeldLeaf)
    (line : TextLine) (row : Row) : Type 0 where
  pub said : Line
  pub following : List ℕ
  pub stop : List Cell
  pub within : LineIn bytes following line
  pub stops : Stops stop
  pub short : length (line_cells said line stop) < 2 ^ 63
  pub read : AreRead open_before
  pub front : row.front ≡ (held_at options open_before still (line_cells said line stop) (line_start line)).front
  pub first : row.first ≡ (held_at options open_before still (line_cells said line stop) (line_start line)).point
  pub after : row.after ≡ (if is_end line.ending then None else Some (next_line line))
  -- only the first line of a text may begin in another column than the first
  pub column : (line.column ≡ 0) ⊎ (still ≡ held_leaf.None)

-- So are these lines and rows; the containers that end after a line are those that the next one ends.
abbrev pub AreFed : ParseOptions → List ℕ → List Container → HeldLeaf → List TextLine → List Row → Type 0
AreFed options bytes open_before still [] [] = Unit {0}
AreFed options bytes open_before still (line ∷ lines) (row ∷ rows) =
    IsFed options bytes open_before still line row × (row.closed_after ≡ closes_before (open_following row.change) rows)
    × AreFed options bytes (open_following row.change) row.following lines rows
AreFed options bytes open_before still _ _ = ⊥

-- A line that is read so fits its row, where this path is open before it.
line-fit : (options : ParseOptions) (bytes : List ℕ) (p : Path) (line : TextLine) (row : Row) (lines : List TextLine)
    (rows : List Row) →
    KnowsStep options → (are : AreMet options bytes p (line ∷ lines) (row ∷ rows)) →
    IsFed options bytes (containers_of p) (still_of p) line row →
    row.closed_after ≡ closes_before (open_following row.change) rows →
    Fit options bytes (row_of options p line (rows_of options (step options p (whole line)) lines)) row
line-fit options bytes p line row lines rows knows are fed closed = record {
  own = met.own;
  is = met.is;
  rest = rest;
  following = fed.following;
  within = fed.within;
  on = on;
  ending = ends;
  next = next (is_end line.ending) refl ∙ sym (ap after_by fed.after);
  front = fronted.front ∙ sym fed.front;
  further = λ proceeds. further-front options p line below proceeds ∙ fronted.front ∙ sym fed.front;
  ends = line-ends options bytes p line row lines rows knows are closed end;
  name =
      λ last. name-same options bytes x row named (subst (λ (r : Rest). IsLast x.role r row.kind) (sym rest) last);
  open_leaf = (spot p).leaf;
  below = rows;
  role = named.role ∙ ap (λ (r : Rest). row_role options (spot p).leaf r row rows) rest;
  met = may_meet;
}
  where
    met : IsMet options bytes p line row
    met = are.0

    below : List exact.Row
    below = rows_of options (step options p (whole line)) lines

    x : exact.Row
    x = row_of options p line below

    fronted : IsFronted bytes fed.following line x
        (held_at options (containers_of p) (still_of p) (line_cells fed.said line fed.stop) (line_start line))
    fronted =
        line-fronted options fed.said bytes fed.following line p fed.stop below met.plain fed.read fed.within fed.stops
        fed.short

    on : OnLine bytes fed.following line x.rest row.first
    on = subst (OnLine bytes fed.following line x.rest) (sym fed.first) fronted.on

    rest : met.is.rest ≡ x.rest
    rest = met.rest_is ∙ ap (λ (c : Contained). c.rest) (contained-by options p line met.plain)

    at : BeginsAt line met.is.rest row.first
    at =
        on-begins bytes fed.following line met.is.rest row.first fed.within
        (subst (λ (r : Rest). OnLine bytes fed.following line r row.first) (sym rest) on)

    end : place line (line_end line) ≡ row.end
    end =
        ends-at line met.is.rest row.first at
        ∙ sym (met.is.end ∙ ap (λ (l : List ℕ). past_text l row.first) met.is.line_is)

    -- after the line
    ending_by : Name → Option Point → List Event
    ending_by name after = elim after [ None ↦ [] | Some q ↦ pair name row.end q ]

    after_by : Option Point → Point
    after_by after = elim after [ None ↦ row.end | Some q ↦ q ]

    ends : (name : Name) → ending name line ≡ ending_events name row
    ends name =
        ap (λ (q : Point). if is_end line.ending then [] else pair name q (next_line line)) end
        ∙ go (is_end line.ending) ∙ sym (ap (ending_by name) fed.after)
      where
        go : (t : Bool) →
            cond t [] (pair name row.end (next_line line)) ≡ ending_by name (cond t None (Some (next_line line)))
        go true = refl
        go false = refl

    next : (t : Bool) → is_end line.ending ≡ t → next_line line ≡ after_by (cond t None (Some (next_line line)))
    next true e =
        ap
        (λ (t : Bool).
        cond t (place line (line_end line))
        (begin (line.number + 1) (line.index + length line.bytes + length line.ending) 0)) e
        ∙ end
    next false e = refl

    may_meet : may_continue row.on ≡ true → row.on ≡ still_of p
    may_meet = (meets-leaf options bytes p line row met).met

    named : IsNamed options bytes x row
    named = record {
      own = met.own;
      is = met.is;
      rest = rest;
      at = at;
      open_leaf = (spot p).leaf;
      below = rows;
      role = first-role options bytes p (line ∷ lines) (row ∷ rows) are;
      met = may_meet;
      first = first fed.column;
    }
      where
        first : (line.column ≡ 0) ⊎ (still_of p ≡ held_leaf.None) → may_continue row.on ≡ true → line.column ≡ 0
        first (inl zero) may = zero
        first (inr none) may = let bad : true ≡ false = sym may ∙ ap may_continue (may_meet may ∙ none) in absurd (cc)

-- So do all of them.
pub lines-fit : (options : ParseOptions) (bytes : List ℕ) (p : Path) (lines : List TextLine) (rows : List Row) →
    KnowsStep options → AreMet options bytes p lines rows →
    AreFed options bytes (containers_of p) (still_of p) lines rows →
    Pairs (Fit options bytes) (rows_of options p lines) rows
lines-fit options bytes p [] [] knows are fed = tt
lines-fit options bytes p [] (row ∷ rows) knows are fed = absurd are
lines-fit options bytes p (line ∷ lines) [] knows are fed = absurd are
lines-fit options bytes p (line ∷ lines) (row ∷ rows) knows are fed = (
  line-fit options bytes p line row lines rows knows are fed.0 fed.1,
  lines-fit options bytes (step options p (whole line)) lines rows knows are.2
      (subst₂
      (λ (cs : List Container) (still : HeldLeaf). AreFed options bytes cs still lines rows)
      (ap open_following are.0.change ∙ sym (knows.containers p (whole line) are.0.plain)) (sym are.0.following) fed.2),
)
