-- A block quote continues and opens by the cells of a line where it does by its bytes.
use Rattle.std.proofs.Common.{◌≡◌, Bool, true, false, cond, ◌&&◌, ◌++◌, List, Option, Some, None, refl, sym, subst}
use Rattle.std.proofs.Common.{arith}
use Rattle.md_engine.specs.declared.configuration.ParseOptions.{ParseOptions}
use Rattle.md_engine.specs.Meaning.{Cell}
use Rattle.md_containers.specs.QuoteRule.{opening_end, opening_events, opening_kind, prefix_end, prefix_events}
use Rattle.md_containers.specs.QuoteRule.{takes_prefix}
use Rattle.md_containers.proofs.OpeningLines.{HasOpeningPrefix, OpeningIs, opening-agrees, opening-no_ending}
use Rattle.md_containers.proofs.OpeningLines.{quote-onward}
use Rattle.md_containers.proofs.QuoteLines.{HasPrefix, PrefixIs, prefix-agrees, quote-container, quote-no_ending}
use Rattle.md_meaning.specs.declared.alert.AlertKind.{AlertKind}
use Rattle.md_meaning.specs.Containers.{Taken, opens_quote, quote_taken, with_kind}
use Rattle.md_meaning.specs.State.{InQuote}
use Rattle.md_events.proofs.RestCells.{past_rest, rest_cells}
use Rattle.proof_container_laws.specs.Containers.BlockQuote.{quote_new, quote_on, quote_rules}
use Rattle.proof_frame.specs.Passed.{Passed}
use Rattle.proof_frame.proofs.ContainerLaws.{ByRest}
use Rattle.proof_frame.proofs.PassedFacts.{Agree, HasFurther, HasOpening}
use Rattle.proof_container_laws.proofs.BlockQuote.Facts.{quote-continues, quote-opens_read}

-- a quote of this kind continues
pub quote-proceeds : (options : ParseOptions) (alert : Option AlertKind) → ByRest (λ line text past r stop p.
    let cells = rest_cells line r p ++ stop in
    Agree (HasFurther line text past p (past_rest r p) stop cells)
    (quote_rules.proceeds options (InQuote alert) cells p)
    (quote_taken options alert r))
quote-proceeds options alert line text past r stop p is h k short =
    go (quote_taken options alert r) refl (prefix-agrees options alert line text past r stop p is k short)
  where
    cells : List Cell
    cells = rest_cells line r p ++ stop

    Has : Passed → Taken → Type 0
    Has passed taken = HasFurther line text past p (past_rest r p) stop cells passed taken

    passed : Passed
    passed = quote_on options alert cells p

    By : Bool → Option Taken → Type 0
    By x taken = Agree Has (cond x (Some passed) None) taken

    further : (t : Taken) → quote_taken options alert r ≡ Some t →
        HasPrefix options line text past (past_rest r p) stop cells p t.rest → Has passed t
    further t e has = record {
      passes = record {
        container = sym (quote-container options alert r t e);
        read = tt;
        fed = has.fed;
        valid = has.valid;
        ends = has.ends;
        no_ending = quote-no_ending options alert r t h e;
        shorter = let lt = has.shorter in omega arith;
      };
      further =
          quote-continues text p (prefix_end options cells p) (prefix_events options cells p) has.prefix
          (omega (arith, is.column, has.valid.column, quote-onward options alert r t e));
    }

    go : (taken : Option Taken) → quote_taken options alert r ≡ taken →
        PrefixIs options line text past (past_rest r p) stop cells p taken → By (takes_prefix options cells) taken
    go None e none = subst (λ (x : Bool). By x None) (sym none) tt
    go (Some t) e has = subst (λ (x : Bool). By x (Some t)) (sym has.takes) (further t e has)

-- a quote opens, if quotes are on
pub quote-begins : (options : ParseOptions) (interrupting : Bool) → ByRest (λ line text past r stop p.
    let cells = rest_cells line r p ++ stop in
    Agree (HasOpening line text past p (past_rest r p) stop cells) (quote_rules.opens options interrupting cells p)
    (opens_quote options r))
unfolding opens_quote
quote-begins options interrupting line text past r stop p is h k short = on options.constructs.block_quote
  where
    cells : List Cell
    cells = rest_cells line r p ++ stop

    Has : Passed → Taken → Type 0
    Has passed taken = HasOpening line text past p (past_rest r p) stop cells passed taken

    passed : Passed
    passed = quote_new options cells p

    By : Bool → Option Taken → Type 0
    By x taken = Agree Has (cond x (Some passed) None) taken

    found : Option Taken
    found = with_kind options (quote_taken options None r)

    opening : (t : Taken) → found ≡ Some t →
        HasOpeningPrefix options line text past (past_rest r p) stop cells p t → Has passed t
    opening t e has = record {
      passes = record {
        container = sym has.kind;
        read = tt;
        fed = has.fed;
        valid = has.valid;
        ends = has.ends;
        no_ending = opening-no_ending options r t h e;
        shorter = let lt = has.shorter in omega arith;
      };
      inside = opening_events options cells p;
      events = refl;
      opening =
          quote-opens_read text (opening_kind options cells) p (opening_end options cells p)
          (opening_events options cells p) has.opening;
      fewer = has.shorter;
    }

    go : (taken : Option Taken) → found ≡ taken →
        OpeningIs options line text past (past_rest r p) stop cells p taken → By (takes_prefix options cells) taken
    go None e none = subst (λ (x : Bool). By x None) (sym none) tt
    go (Some t) e has = subst (λ (x : Bool). By x (Some t)) (sym has.takes) (opening t e has)

    on : (x : Bool) → Agree Has (cond (x && takes_prefix options cells) (Some passed) None) (cond x found None)
    on true = go found refl (opening-agrees options line text past r stop p is h k short)
    on false = tt
