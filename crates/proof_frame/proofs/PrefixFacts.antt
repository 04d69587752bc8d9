-- What is known of the events that are before the content of a container on a line, from the point where they begin to
-- the one where its content does: the frame needs no more of a container.
use Rattle.std.proofs.Common.{◌≡◌, ◌≢◌, ℕ, ◌≤◌, Bool, true, false, List, [], ◌∷◌, ◌++◌}
use Rattle.std.specs.Prelude.{◌==◌, None}
use Rattle.md_engine.specs.declared.event.Event.{Event}
use Rattle.md_engine.specs.declared.event.Point.{Point}
use Rattle.md_containers.proofs.UnlistedLemmas.{NoListing, ItemsLead, Unlists, among}
use Rattle.md_meaning.specs.State.{Container}
use Rattle.md_events.specs.Events.Grammar.{Expression, after_block, blocks}
use Rattle.md_events.specs.Events.Nested.{enter}
use Rattle.md_events.specs.Events.Spelled.{ContainerRole, Reading, byte_at, read}
use Rattle.md_meaning.specs.Rest.{is_blank}
use Rattle.md_meaning.specs.Tree.{End}
use Rattle.proof_frame.specs.Around.{around_of}
use Rattle.proof_frame.proofs.CollectFacts.{Collects}
use Rattle.md_events.proofs.EndingsLemmas.{AreOthers}
use Rattle.md_events.proofs.GrammarLemmas as grammar
use Rattle.md_events.proofs.SpelledLemmas.{Unmarked}
use Rattle.md_outline.specs.Between.{is_between}
use Rattle.proof_frame.specs.ContainerNames.{container_name, is_listed, shape_of}
use Rattle.proof_frame.proofs.BetweenFacts.{AreBetween}
use Rattle.md_events.specs.declared.inline.PartKind.{PartKind}
use Rattle.proof_frame.proofs.PartsValid.{Inside}
use Rattle.proof_frame.proofs.PiecesLemmas.{Covered}
use Rattle.proof_frame.proofs.PrefixNames.{AreFront, ArePrefixes}
use Rattle.proof_frame.proofs.SpanLemmas.{Nested_in}
use Rattle.proof_frame.proofs.PieceFacts.{PiecesValid}
use Rattle.proof_frame.proofs.PartedFacts.{PrefixesAtLineStart, clear}
use Rattle.proof_frame.proofs.PlainFacts.{ArePlain}
use Rattle.proof_frame.proofs.PartFacts.{NoLinks, NoParts}
use Rattle.proof_frame.proofs.Reached.{PartsText}
use Rattle.proof_frame.proofs.ReadAs.{ReadAs, Same}
use Rattle.proof_frame.proofs.ContainerNames.{TakesData, TakesPrefixes}
use Rattle.md_outline.specs.Roles.{is_plain}

-- a container begins in what is read
abbrev pub begins : Container → Reading → Reading
begins c r = record r { outer = around_of c r.here ∷ r.outer; here = End }

-- where it continues, and where it opens
pub record PrefixFacts (bytes : List ℕ) (p q : Point) (es : List Event) : Type 0 where
  -- they nest, go forward, and stay on one line
  pub nested : Nested_in p q es
  pub line : q.line ≡ p.line
  -- they cover what is there
  pub tiled : Covered p q es
  -- their pieces are over what their names say
  pub is_valid : PiecesValid bytes es
  -- no ending is in them, and no begin or end of a leaf
  pub others : AreOthers es
  -- they begin where no tab of a character is cut, if they end so
  pub clear : clear bytes q ≡ true → clear bytes p ≡ true
  -- they are between characters, if they begin so
  pub between : is_between bytes p.index ≡ true → AreBetween bytes es × (is_between bytes q.index ≡ true)

-- whether there are none
abbrev pub is_bare : List Event → Bool
is_bare [] = true
is_bare (e ∷ es) = false

-- where it continues
pub record Continues (bytes : List ℕ) (p q : Point) (es : List Event) : Type 0 where
  pub common : PrefixFacts bytes p q es
  -- they take columns, if there are any
  pub onward : p.column ≤ q.column
  pub bare : is_bare es ≡ (q.column == p.column)
  -- they have names of prefixes, and none of them gives a quote a kind
  pub names : ArePrefixes es
  pub unmarked : Unmarked bytes es
  -- they keep the grammar, before blocks and of a further line of a leaf
  pub stays : (text x : Expression) → TakesPrefixes x → grammar.Leads text (x ∷ []) (x ∷ []) es
  -- a text continues after them
  pub parted : PartsText bytes p q es
  -- they may be in a text part
  pub inside : (kind : PartKind) → Inside bytes kind [] es
  -- of a text that continues after them, they leave whitespace alone
  pub collects : (ys : List Event) (end : ℕ) (all : List ℕ) → Collects bytes ys (byte_at q) end all →
      (white : List ℕ) × (is_blank white ≡ true) × Collects bytes (es ++ ys) (byte_at p) end (white ++ all)

-- where it opens, after its begin, be the text parts of these events read or not
pub record Opens (bytes : List ℕ) (c : Container) (p q : Point) (es : List Event) : Type 0 where
  pub common : PrefixFacts bytes p q es
  pub names : AreFront es
  -- an outline knows them, and a text that begins in them ends in them
  pub plain : ArePlain bytes es
  pub sits : PrefixesAtLineStart bytes es
  -- with the begin of the container, they keep the grammar of events around which nothing is put yet
  pub leads : (text : Expression) → TakesData text →
      Unlists text (blocks ∷ []) (blocks ∷ after_block ∷ []) (enter (container_name c) p ∷ es)
  -- blocks may follow in it, and they show what its events are to show
  pub valid : (held : List Bool) →
      ItemsLead bytes (among held) (among (is_listed c ∷ held)) (enter (container_name c) p ∷ es)
  -- nothing is put around any of them
  pub unlisted : NoListing es
  -- before its blocks the container is read, and they show its kind alone
  pub read : (r : Reading) → r.text ≡ None → r.leaf ≡ None →
      read bytes r (enter (container_name c) p ∷ es) ≡ begins c r
  -- an outline shows the container
  pub shown : is_plain (ContainerRole (shape_of c)) ≡ true
  -- there are some
  pub some : es ≢ []

-- where it opens, before its text parts are read, and once they are
pub record OpensRead (bytes : List ℕ) (c : Container) (p q : Point) (es : List Event) : Type 0 where
  pub unread : Opens bytes c p q es
  pub done : List Event
  pub read : Opens bytes c p q done
  pub reads : ReadAs bytes es done

-- where none of them is read later
pub opens-same : (bytes : List ℕ) (c : Container) (p q : Point) (es : List Event) → Opens bytes c p q es →
    NoLinks es → NoParts es → OpensRead bytes c p q es
opens-same bytes c p q es is unlinked no_parts =
    record { unread = is; done = es; read = is; reads = Same es unlinked no_parts }
