-- The rows of a text are what the lines of the exact list meet, from any line on.
use Rattle.std.proofs.Common.{◌≡◌, ℕ, ◌-◌, List, [], ◌∷◌, ap, ap₂, sym, ◌∙◌, subst, subst₂}
use Rattle.md_engine.specs.declared.configuration.ParseOptions.{ParseOptions}
use Rattle.md_engine.specs.declared.event.Point.{Point}
use Rattle.md_engine.specs.declared.tokenizer.held_leaf.HeldLeaf.{HeldLeaf}
use Rattle.md_meaning.specs.Rest.{Rest}
use Rattle.md_meaning.specs.State.{Container, Path}
use Rattle.md_meaning.specs.Step.{step}
use Rattle.md_events.specs.Exact.Places.{TextLine, whole}
use Rattle.proof_frame.specs.Change.{open_following}
use Rattle.proof_frame.specs.RestLine.{rest_line}
use Rattle.proof_frame.specs.Row.{Row}
use Rattle.proof_rows.specs.Fronted.{rest_from}
use Rattle.proof_rows.specs.Rows.{line_following, line_kind}
use Rattle.proof_rows.specs.Valid.{IsPlain, containers_of, still_of}
use Rattle.proof_rows.proofs.RowFacts.{AreRows, IsLine}
use Rattle.proof_exact.proofs.ExactRoles.{AreMet, IsMet, contained_at}

-- What is open after a line by the step of the line definition is what the line leaves open: its containers, the leaf,
-- and that this may be open.
pub record KnowsStep (options : ParseOptions) : Type 0 where
  pub plain : (p : Path) (r : Rest) → IsPlain p → IsPlain (step options p r)
  pub containers : (p : Path) (r : Rest) → IsPlain p →
      containers_of (step options p r) ≡ open_following (contained_at options p r).change
  pub still : (p : Path) (r : Rest) → IsPlain p →
      let c = contained_at options p r in
      still_of (step options p r) ≡ line_following options c.on c.rest (line_kind options c.on c.rest)

-- lines have these bytes; the first begins in this column, and the others in the first
abbrev pub HaveBytes : ℕ → List TextLine → List (List ℕ) → Type 0
HaveBytes column [] [] = Unit {0}
HaveBytes column (line ∷ lines) (own ∷ owns) =
    (line.bytes ≡ own) × (line.column ≡ column) × HaveBytes 0 lines owns
HaveBytes column lines owns = ⊥

whole-from : (q : Point) (line : TextLine) (own : List ℕ) → line.bytes ≡ own → line.column ≡ q.column - 1 →
    whole line ≡ rest_from q own
whole-from q line own bytes column =
    ap₂ (λ (at : ℕ) (text : List ℕ). record { column = at; spaces = 0; bytes = text }) column bytes

line-met : (options : ParseOptions) (bytes : List ℕ) (p : Path) (q : Point) (line : TextLine) (own : List ℕ)
    (row : Row) → KnowsStep options → IsPlain p → whole line ≡ rest_from q own →
    IsLine options bytes (containers_of p) (still_of p) q own row → IsMet options bytes p line row
line-met options bytes p q line own row knows plain same is = record {
  plain = plain;
  own = rest_line (contained_at options p (rest_from q own)).rest;
  is = is.is;
  rest_is = rest;
  on = on;
  change = is.change ∙ ap (λ (r : Rest). (contained_at options p r).change) (sym same);
  following =
      knows.still p (whole line) plain
      ∙ ap₂ (λ (met : HeldLeaf) (r : Rest). line_following options met r (line_kind options met r)) (sym on) (sym rest)
      ∙ ap (line_following options row.on is.is.rest) (sym is.is.kind) ∙ sym is.is.following;
}
  where
    rest : is.is.rest ≡ (contained_at options p (whole line)).rest
    rest = is.rest_is ∙ ap (λ (r : Rest). (contained_at options p r).rest) (sym same)

    on : row.on ≡ (contained_at options p (whole line)).on
    on = is.on ∙ ap (λ (r : Rest). (contained_at options p r).on) (sym same)

pub rows-met : (options : ParseOptions) (bytes : List ℕ) (p : Path) (q : Point) (lines : List TextLine)
    (owns : List (List ℕ)) (rows : List Row) → KnowsStep options → IsPlain p → HaveBytes (q.column - 1) lines owns →
    AreRows options bytes (containers_of p) (still_of p) q owns rows → AreMet options bytes p lines rows
rows-met options bytes p q [] [] rows knows plain have are = absurd are
rows-met options bytes p q [] (own ∷ owns) rows knows plain have are = absurd have
rows-met options bytes p q (line ∷ lines) [] rows knows plain have are = absurd have
rows-met options bytes p q (line ∷ lines) (own ∷ []) [] knows plain have are = absurd are
rows-met options bytes p q (line ∷ lines) (own ∷ next ∷ owns) [] knows plain have are = absurd are
rows-met options bytes p q (line ∷ next ∷ lines) (own ∷ []) rows knows plain have are = absurd have.2
rows-met options bytes p q (line ∷ []) (own ∷ next ∷ owns) rows knows plain have are = absurd have.2
rows-met options bytes p q (line ∷ []) (own ∷ []) (row ∷ below ∷ rows) knows plain have are = absurd are
rows-met options bytes p q (line ∷ next ∷ lines) (own ∷ after ∷ owns) (row ∷ []) knows plain have are = absurd are
rows-met options bytes p q (line ∷ []) (own ∷ []) (row ∷ []) knows plain have are =
    (line-met options bytes p q line own row knows plain (whole-from q line own have.0 have.1) are.0, tt, tt)
rows-met options bytes p q (line ∷ next ∷ lines) (own ∷ after ∷ owns) (row ∷ below ∷ rows) knows plain have are = (
  met,
  are.1,
  rows-met options bytes (step options p (whole line)) are.2 (next ∷ lines) (after ∷ owns) (below ∷ rows) knows
      (knows.plain p (whole line) plain)
      (subst (λ (column : ℕ). HaveBytes column (next ∷ lines) (after ∷ owns)) (sym (ap (λ (n : ℕ). n - 1) are.4.column))
      have.2)
      (subst₂
      (λ (cs : List Container) (still : HeldLeaf).
      AreRows options bytes cs still are.2 (after ∷ owns) (below ∷ rows))
      (sym
      (knows.containers p (whole line) plain
      ∙ ap (λ (r : Rest). open_following (contained_at options p r).change) same)) (sym met.following) are.5),
)
  where
    same : whole line ≡ rest_from q own
    same = whole-from q line own have.0 have.1

    met : IsMet options bytes p line row
    met = line-met options bytes p q line own row knows plain same are.0
