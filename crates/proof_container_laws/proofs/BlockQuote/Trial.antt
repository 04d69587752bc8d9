-- What is tried for a block quote: its prefix is taken where its cells say so, and takes a cell at least.
use Rattle.std.proofs.Common.{◌≡◌, ℕ, zero, suc, Bool, true, false, cond, ◌&&◌, ◌⊎◌, inl, inr, List, [], ◌∷◌, ◌++◌}
use Rattle.std.proofs.Common.{Some, None, refl, ◌∙◌, sym, subst, ap, arith}
use Rattle.std.proofs.lemmas.Bool.{and_parts, eqb-true}
use Rattle.std.specs.Prelude.{Option}
use Rattle.std.proofs.lemmas.Bool.Decides.{nat_tests}
use Rattle.md_engine.specs.declared.configuration.ParseOptions.{ParseOptions}
use Rattle.md_engine.specs.declared.event.Point.{Point}
use Rattle.md_engine.specs.declared.tokenizer.container.name.ContainerKind.TheVariants as kind
use Rattle.md_engine.specs.declared.tokenizer.container.Container.{Container as Held}
use Rattle.md_engine.specs.Meaning.{Accepts, Cell, Here, Outcome, Refuses}
use Rattle.md_engine.specs.World.{container_of}
use Rattle.md_containers.specs.Quote.{may_begin}
use Rattle.md_containers.specs.QuoteRule.{has_marker, prefix_at, quote_at, takes_prefix}
use Rattle.md_meaning.specs.declared.alert.AlertKind.{AlertKind}
use Rattle.md_meaning.specs.Rest.{is_white}
use Rattle.md_meaning.specs.State.{Container, InFootnote, InItem, InQuote}
use Rattle.md_events.specs.Ahead.{white_rest}
use Rattle.md_events.specs.Look.{first_seen, seen_after}
use Rattle.md_events.specs.Spaces.{IsRest, ends_line, small_indent}
use Rattle.md_events.proofs.LookLemmas.{rest-begins}
use Rattle.proof_container_laws.specs.Containers.BlockQuote.{quote_continues, quote_new, quote_on, quote_rules}
use Rattle.proof_frame.specs.ContainerNames.{IsOf}
use Rattle.proof_frame.specs.Passed.{Passed, passed_by}
use Rattle.proof_container_laws.proofs.BlockQuote.Cells.{opening-front, prefix-front}
use Rattle.proof_frame.proofs.ContainerLaws.{IsPassed}
use Rattle.md_containers.proofs.QuoteCells.{opening-shorter, prefix-is, prefix-shorter, quote-is}

-- after the prefix of one that is asked already
abbrev taken_by : Passed → Here → Outcome
taken_by u h = Accepts (record h { events = h.events ++ u.events; point = u.point }) u.cells

-- what is here, if it does, is taken, and else refused; what is held of it stays
tried-if : (x : Bool) (u : Passed) (h : Here) → h.flags.asked ≡ u.held →
    cond x (taken_by u h) (Refuses h.scratch h.flags) ≡ passed_by (cond x (Some u) None) h
tried-if true u h asked =
    ap
    (λ (held : Held).
    Accepts
    (record h {
      events = h.events ++ u.events;
      point = u.point;
      flags = record h.flags { asked = held };
    }) u.cells) asked
tried-if false u h asked = refl

-- what is taken, if anything is, is here
taken-if : (x : Bool) (u t : Passed) → cond x (Some u) None ≡ Some t → (x ≡ true) × (u ≡ t)
taken-if true u t e = let same : u ≡ t = cc in (refl, same)
taken-if false u t e = cc

-- what holds of quotes of all kinds holds of each container of this kind
pub each-quote : (P : Container → Type 0) → ((alert : Option AlertKind) → P (InQuote alert)) → (c : Container) →
    IsOf kind.BlockQuote c → P c
each-quote P h (InQuote alert) is = h alert
each-quote P h (InItem digits marker zero starts_blank) is = cc
each-quote P h (InItem digits marker (suc more) starts_blank) is = cc
each-quote P h (InFootnote label) is = cc

-- on a further line,
pub prefix-tried : (options : ParseOptions) (c : Container) (cells : List Cell) (h : Here) → IsRest h.scratch →
    h.flags.asked ≡ container_of kind.BlockQuote → IsOf kind.BlockQuote c →
    prefix_at options cells h ≡ passed_by (quote_continues options c cells h.point) h
prefix-tried options c cells h is asked of =
    each-quote (λ d. prefix_at options cells h ≡ passed_by (quote_continues options d cells h.point) h)
    (λ alert.
    prefix-is options cells h is
    ∙ tried-if (takes_prefix options cells) (quote_on options alert cells h.point) h asked) c of

-- not where another byte than `>` is first after whitespace,
no_prefix : (options : ParseOptions) (cells : List Cell) (b : ℕ) → seen_after cells ≡ Some b →
    may_begin b ≡ false → takes_prefix options cells ≡ false
no_prefix options cells b seen e =
    let first = rest-begins (small_indent options) cells b seen in
    go (white_rest (small_indent options) cells) first.0 first.1 (refused first.0 first.2)
  where
    refused : (c : ℕ) → (is_white c ≡ true) ⊎ (c ≡ b) → may_begin c ≡ false
    refused c (inl white) = grind (arith, nat_tests)
    refused c (inr same) = rw same e

    go : (cells : List Cell) (c : ℕ) → first_seen cells ≡ Some c → may_begin c ≡ false → has_marker cells ≡ false
    go [] c is other = refl
    go (d ∷ ds) c is other = let same : d.byte ≡ c = cc in rw same other

-- nor where the line ends
ended_prefix : (options : ParseOptions) (cells : List Cell) → ends_line (first_seen cells) ≡ true →
    takes_prefix options cells ≡ false
ended_prefix options [] ends = refl
ended_prefix options (c ∷ cs) ends =
    let ten : c.byte ≡ 10 = eqb-true c.byte 10 ends in no_prefix options (c ∷ cs) 10 (rw ten refl) refl

pub prefix-ended : (options : ParseOptions) (c : Container) (cells : List Cell) (p : Point) →
    IsOf kind.BlockQuote c → ends_line (first_seen cells) ≡ true → quote_continues options c cells p ≡ None
prefix-ended options c cells p of ends =
    each-quote (λ d. quote_continues options d cells p ≡ None)
    (λ alert.
    ap (λ (x : Bool). cond x (Some (quote_on options alert cells p)) None) (ended_prefix options cells ends)) c of

pub prefix-looked : (options : ParseOptions) (cells : List Cell) (h : Here) (b : ℕ) → IsRest h.scratch →
    seen_after cells ≡ Some b → may_begin b ≡ false → prefix_at options cells h ≡ Refuses h.scratch h.flags
prefix-looked options cells h b is seen e =
    prefix-is options cells h is
    ∙ ap (λ (x : Bool). cond x (taken_by (quote_on options None cells h.point) h) (Refuses h.scratch h.flags))
    (no_prefix options cells b seen e)

-- one that is taken is a quote that continues
proceeds-on : (options : ParseOptions) (c : Container) (cells : List Cell) (p : Point) (t : Passed) →
    quote_continues options c cells p ≡ Some t →
    (alert : Option AlertKind) × (takes_prefix options cells ≡ true) × (quote_on options alert cells p ≡ t)
proceeds-on options (InQuote alert) cells p t e =
    let is = taken-if (takes_prefix options cells) (quote_on options alert cells p) t e in (alert, is.0, is.1)
proceeds-on options (InItem digits marker width starts_blank) cells p t e = cc
proceeds-on options (InFootnote label) cells p t e = cc

pub prefix-passed : (options : ParseOptions) (c : Container) (cells : List Cell) (p : Point) (t : Passed) →
    quote_continues options c cells p ≡ Some t → IsPassed kind.BlockQuote cells t
prefix-passed options c cells p t e =
    let is = proceeds-on options c cells p t e in
    let lt = prefix-shorter options cells is.1 in
    subst (IsPassed kind.BlockQuote cells) is.2
    (record {
      one = refl;
      kind = refl;
      shorter = λ ends. lt;
      within = omega (arith, lt);
      front = prefix-front options cells p;
    })

pub prefix-held : (options : ParseOptions) (c : Container) (cells : List Cell) (p : Point) (t : Passed) →
    quote_continues options c cells p ≡ Some t → t.held ≡ container_of kind.BlockQuote
prefix-held options c cells p t e = sym (ap (λ (u : Passed). u.held) (proceeds-on options c cells p t e).2)

-- and where one opens
pub quote-tried : (options : ParseOptions) (interrupting : Bool) (cells : List Cell) (h : Here) → IsRest h.scratch →
    h.flags.asked ≡ container_of kind.BlockQuote →
    quote_at options cells h ≡ passed_by (quote_rules.opens options interrupting cells h.point) h
quote-tried options interrupting cells h is asked =
    quote-is options cells h is
    ∙ tried-if (options.constructs.block_quote && takes_prefix options cells) (quote_new options cells h.point) h asked

pub quote-looked : (options : ParseOptions) (cells : List Cell) (h : Here) (b : ℕ) → IsRest h.scratch →
    seen_after cells ≡ Some b → may_begin b ≡ false → quote_at options cells h ≡ Refuses h.scratch h.flags
quote-looked options cells h b is seen e = quote-is options cells h is ∙ go options.constructs.block_quote
  where
    new : Outcome
    new = taken_by (quote_new options cells h.point) h

    go : (x : Bool) →
        cond (x && takes_prefix options cells) (taken_by (quote_new options cells h.point) h)
        (Refuses h.scratch h.flags) ≡
        Refuses h.scratch h.flags
    go true = ap (λ (y : Bool). cond y new (Refuses h.scratch h.flags)) (no_prefix options cells b seen e)
    go false = refl

pub quote-passed : (options : ParseOptions) (interrupting : Bool) (cells : List Cell) (p : Point) (t : Passed) →
    quote_rules.opens options interrupting cells p ≡ Some t → IsPassed kind.BlockQuote cells t
quote-passed options interrupting cells p t e =
    let is = taken-if (options.constructs.block_quote && takes_prefix options cells) (quote_new options cells p) t e in
    let takes = (and_parts options.constructs.block_quote (takes_prefix options cells) is.0).1 in
    subst (IsPassed kind.BlockQuote cells) is.1
    (record {
      one = refl;
      kind = refl;
      shorter = λ ends. opening-shorter options cells takes;
      within = let lt = opening-shorter options cells takes in omega (arith, lt);
      front = ((refl, refl), opening-front options cells p);
    })

pub quote-ended : (options : ParseOptions) (interrupting : Bool) (cells : List Cell) (p : Point) →
    ends_line (first_seen cells) ≡ true → quote_rules.opens options interrupting cells p ≡ None
quote-ended options interrupting cells p ends = go options.constructs.block_quote
  where
    new : Option Passed
    new = Some (quote_new options cells p)

    go : (x : Bool) → cond (x && takes_prefix options cells) new None ≡ None
    go true = ap (λ (y : Bool). cond y new None) (ended_prefix options cells ends)
    go false = refl

pub quote-held : (options : ParseOptions) (interrupting : Bool) (cells : List Cell) (p : Point) (t : Passed) →
    quote_rules.opens options interrupting cells p ≡ Some t → t.held ≡ container_of kind.BlockQuote
quote-held options interrupting cells p t e =
    sym
    (ap (λ (u : Passed). u.held)
    (taken-if (options.constructs.block_quote && takes_prefix options cells) (quote_new options cells p) t e).1)
