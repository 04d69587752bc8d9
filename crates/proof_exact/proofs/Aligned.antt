-- The lines of the exact list are aligned with the rows of a text, from any line on.
use Rattle.std.proofs.Common.{◌≡◌, ℕ, Bool, true, false, List, [], ◌∷◌, refl, ap, ap₂, sym, ◌∙◌}
use Rattle.std.specs.Prelude.{◌&&◌, ◌||◌, not}
use Rattle.md_engine.specs.declared.configuration.ParseOptions.{ParseOptions}
use Rattle.md_engine.specs.declared.tokenizer.held_leaf.HeldLeaf.{HeldLeaf}
use Rattle.md_meaning.specs.Rest.{Rest}
use Rattle.md_meaning.specs.State.{Container, Leaf, NoLeaf, OpenCode, OpenFence, OpenHtml, OpenParagraph, OpenTable}
use Rattle.md_meaning.specs.State.{Path, spot}
use Rattle.md_meaning.specs.Step.{step}
use Rattle.md_events.specs.Exact.Blocks.{is_continued as role_continues}
use Rattle.md_events.specs.Exact.Places.{TextLine, whole}
use Rattle.md_events.specs.Exact.Rows.{rows_of}
use Rattle.proof_frame.specs.Change.{against, is_none, others_of}
use Rattle.proof_frame.specs.HeldLeaf.{kind_of_leaf, met_by, takes_lazy}
use Rattle.proof_frame.specs.LeafName.{LeafName}
use Rattle.proof_frame.specs.Row.{BlankRow, LeafRow, Row, RowKind, TextRow}
use Rattle.proof_literal_laws.specs.Leaf.CodeIndented.{is_code}
use Rattle.md_registry.specs.Registry.{leaf}
use Rattle.md_registry.proofs.Registry.{laws}
use Rattle.proof_rows.specs.Fronted.{Prefixed, contained, prefixes_after, prefixes_on}
use Rattle.proof_rows.specs.Rows.{line_kind}
use Rattle.proof_rows.specs.Valid.{containers_of, still_of}
use Rattle.proof_rows.proofs.FurtherSpan.{met-none}
use Rattle.proof_rows.proofs.KindLemmas.{kind-starts}
use Rattle.proof_exact.proofs.ExactRoles.{AreMet, EndsTo, IsMet, first-role, meets-leaf}
use Rattle.proof_exact.proofs.GroupRuns.{proceeds-role, continues_by, is_open_code}
use Rattle.proof_exact.proofs.GroupsMatch.{AreAligned, FirstBelow, Fits, IsBelow, Pairs, kind_continues}
use Rattle.proof_exact.proofs.RowRoles.{MeetsLeaf, in_code}
use Rattle.proof_exact.proofs.TextRuns.{text-proceeds}

-- What a line meets where no text is open is no text.

met-unlazy : (all : Bool) (still : HeldLeaf) → takes_lazy still ≡ false → takes_lazy (met_by all still) ≡ false
met-unlazy true still e = e
met-unlazy false still e = ap takes_lazy (met-none still e)

contained-unlazy : (options : ParseOptions) (cs : List Container) (still : HeldLeaf) (r : Rest) →
    takes_lazy still ≡ false → takes_lazy (contained options cs still r).on ≡ false
unfolding contained
contained-unlazy options cs still r e = go new.containers
  where
    on : Prefixed
    on = prefixes_on options cs r

    others : List Container
    others = others_of cs on.containers

    new : Prefixed
    new = prefixes_after options still others on

    go : (opens : List Container) → takes_lazy (against still others opens) ≡ false
    go [] = met-unlazy (is_none others) still e
    go (c ∷ opens) = refl

-- A line after another.

line-below : (options : ParseOptions) (bytes : List ℕ) (p : Path) (line : TextLine) (row next : Row) →
    still_of p ≡ row.following → row.closed_after ≡ next.change.closes → IsMet options bytes p line next →
    IsBelow row next
line-below options bytes p line row next following ends is = record {
  met = λ may. (meets-leaf options bytes p line next is).met may ∙ following;
  unlazy =
      λ e. ap takes_lazy is.on
      ∙ contained-unlazy options (containers_of p) (still_of p) (whole line) (ap takes_lazy following ∙ e);
  text =
      λ lazy text. text-proceeds options (containers_of p) (still_of p) (whole line) row next
      (ap takes_lazy following ∙ lazy) is.on is.change
      (is.is.kind ∙ ap₂ (line_kind options) is.on is.rest_is) text ends;
}

first-below : (options : ParseOptions) (bytes : List ℕ) (p : Path) (row : Row) (lines : List TextLine)
    (rows : List Row) → still_of p ≡ row.following → EndsTo row rows → AreMet options bytes p lines rows →
    FirstBelow row rows
first-below options bytes p row lines [] following ends are = tt
first-below options bytes p row [] (next ∷ rows) following ends are = absurd are
first-below options bytes p row (line ∷ lines) (next ∷ rows) following ends are =
    line-below options bytes p line row next following ends are.0

-- It continues the leaf before it by its role just where its row says so.

code-kind : (open_leaf : Leaf) → is_code (kind_of_leaf open_leaf) ≡ is_open_code open_leaf
code-kind NoLeaf = refl
code-kind (OpenParagraph lines) = refl
code-kind (OpenCode lines) = refl
code-kind (OpenFence o lines) = refl
code-kind (OpenHtml kind lines) = refl
code-kind (OpenTable delimiter cells) = refl

proceeds-same : (options : ParseOptions) (bytes : List ℕ) (open_leaf : Leaf) (row : Row) (rows : List Row) →
    MeetsLeaf options bytes open_leaf row → continues_by open_leaf row rows row.kind ≡ kind_continues row rows row.kind
proceeds-same options bytes open_leaf row rows meets = go row.kind refl
  where
    line : (l : LeafName) → row.kind ≡ LeafRow l → (x : Bool) → (leaf l).further row.on ≡ x →
        (x && (not (is_open_code open_leaf) || in_code row rows)) ≡ (x && (not (is_code row.on) || in_code row rows))
    line l e false further = refl
    line l e true further =
        let starts = kind-starts options row.on meets.is.rest l (sym meets.is.kind ∙ e) in
        let on = meets.met ((laws l).meets options row.on meets.is.rest starts further) in
        ap (λ (x : Bool). not x || in_code row rows) (sym (code-kind open_leaf) ∙ ap is_code (sym on))

    go : (kind : RowKind) → row.kind ≡ kind → continues_by open_leaf row rows kind ≡ kind_continues row rows kind
    go BlankRow e = refl
    go (LeafRow l) e = line l e ((leaf l).further row.on) refl
    go TextRow e = refl

-- So the lines are aligned, where this holds of each and its row.
pub aligned : (options : ParseOptions) (bytes : List ℕ) (Fit : Fits) (p : Path) (lines : List TextLine)
    (rows : List Row) → AreMet options bytes p lines rows → Pairs Fit (rows_of options p lines) rows →
    AreAligned options bytes Fit (rows_of options p lines) rows
aligned options bytes Fit p [] [] are pairs = tt
aligned options bytes Fit p [] (row ∷ rows) are pairs = absurd are
aligned options bytes Fit p (line ∷ lines) [] are pairs = absurd are
aligned options bytes Fit p (line ∷ lines) (row ∷ rows) are pairs =
    let is : IsMet options bytes p line row = are.0 in
    let after : Path = step options p (whole line) in (
      record {
        line = is.own;
        is = is.is;
        proceeds =
            ap role_continues (first-role options bytes p (line ∷ lines) (row ∷ rows) are)
            ∙ proceeds-role options (spot p).leaf is.is.rest row rows
            ∙ proceeds-same options bytes (spot p).leaf row rows (meets-leaf options bytes p line row is);
        fits = pairs.0;
      },
      first-below options bytes after row lines rows is.following are.1 are.2,
      aligned options bytes Fit after lines rows are.2 pairs.1,
    )
