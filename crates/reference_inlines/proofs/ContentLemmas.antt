-- The content of a text is that of the definition.
use Rattle.std.proofs.Common.{◌≡◌, ℕ, ◌<◌, Bool, true, false, cond, List, [], ◌∷◌, ◌++◌, length, take, drop}
use Rattle.std.proofs.Common.{Some, None, ap, sym, ◌∙◌, arith, append_assoc}
use Rattle.std.proofs.lemmas.List.{length-drop}
use Rattle.md_engine.specs.declared.event.Name.TheVariants as n
use Rattle.md_inline_events.specs.Forest.{Forest, size}
use Rattle.md_inlines.specs.declared.InlineOptions.{InlineOptions}
use Rattle.md_inlines.specs.Atoms.{merged}
use Rattle.md_inlines.specs.Brackets as brackets
use Rattle.md_inlines.specs.Content.{forest_after}
use Rattle.md_inlines.specs.Emails.{with_emails}
use Rattle.md_inlines.specs.Emphasis.{Item, emphasis}
use Rattle.md_inlines.specs.Targets.{string_atom}
use Rattle.reference_inlines.specs.Leading.{string_parts}
use Rattle.reference_inlines.specs.Merged.{merged_onto}
use Rattle.reference_inlines.specs.Nodes.{len_of_all, nodes}
use Rattle.reference_inlines.specs.Reading.{level_nodes}
use Rattle.reference_inlines.specs.Rounds.{emphasis_nodes}
use Rattle.reference_inlines.specs.Searched.{addressed, searched}
use Rattle.reference_inlines.specs.declared.node.Node.{Node}
use Rattle.reference_inlines.specs.declared.node.Node.TheVariants as node
use Rattle.reference_inlines.proofs.LeadingLemmas.{atom-some, string-found, string-plain}
use Rattle.reference_inlines.proofs.MergedLemmas.{merged-nodes}
use Rattle.reference_inlines.proofs.ReadingLemmas.{size-nodes}
use Rattle.reference_inlines.proofs.RoundLemmas.{emphasis-nodes}
use Rattle.reference_inlines.proofs.SearchedLemmas.{searched-nodes}

-- A loop over a string.

found-long : (options : InlineOptions) (rest : List ℕ) (found : Forest) (more : List Node) (len : ℕ) →
    Some found ≡ string_atom options rest → more ≡ nodes found → len ≡ len_of_all more → len ≡ size found
found-long options rest found more len h more_is len_is = len_is ∙ ap len_of_all more_is ∙ sym (size-nodes found)

pub found-shorter : (options : InlineOptions) (rest next : List ℕ) (b : ℕ) (following : List ℕ) (found : Forest)
    (more : List Node) (len : ℕ) → rest ≡ b ∷ following → Some found ≡ string_atom options rest →
    more ≡ nodes found → len ≡ len_of_all more → next ≡ drop len rest → length next < length rest
found-shorter options rest next b following found more len is h more_is len_is next_is =
    let some : 0 < size found = atom-some options rest found (sym h) in
    let long : len ≡ size found = found-long options rest found more len h more_is len_is in
    omega (arith, some, long, ap length is, ap length next_is, length-drop len rest)

pub string-goes : (options : InlineOptions) (text rest next : List ℕ) (made more list : List Node) (b : ℕ)
    (following : List ℕ) (found : Forest) (len : ℕ) → rest ≡ b ∷ following → Some found ≡ string_atom options rest →
    more ≡ nodes found → len ≡ len_of_all more → next ≡ drop len rest → list ≡ made ++ more →
    made ++ nodes (string_parts options rest) ≡ nodes (string_parts options text) →
    list ++ nodes (string_parts options next) ≡ nodes (string_parts options text)
string-goes options text rest next made more list b following found len is h more_is len_is next_is list_is before =
    let long : len ≡ size found = found-long options rest found more len h more_is len_is in
    let here : string_atom options (b ∷ following) ≡ Some found = ap (string_atom options) (sym is) ∙ sym h in
    let tail : next ≡ drop (size found) (b ∷ following) =
    next_is ∙ ap (λ k. drop k rest) long ∙ ap (drop (size found)) is in
    ap (λ l. l ++ nodes (string_parts options next)) (list_is ∙ ap (λ l. made ++ l) more_is)
    ∙ append_assoc made (nodes found) (nodes (string_parts options next))
    ∙ ap (λ (l : List ℕ). made ++ (nodes found ++ nodes (string_parts options l))) tail
    ∙ ap (λ l. made ++ l) (sym (string-found options b following found here))
    ∙ ap (λ (l : List ℕ). made ++ nodes (string_parts options l)) (sym is) ∙ before

pub plain-goes : (options : InlineOptions) (text rest : List ℕ) (made list : List Node) (b : ℕ) (following : List ℕ) →
    rest ≡ b ∷ following → None ≡ string_atom options rest → list ≡ made ++ node.Piece n.Data 1 ∷ [] →
    made ++ nodes (string_parts options rest) ≡ nodes (string_parts options text) →
    list ++ nodes (string_parts options following) ≡ nodes (string_parts options text)
plain-goes options text rest made list b following is h list_is before =
    let here : string_atom options (b ∷ following) ≡ None = ap (string_atom options) (sym is) ∙ sym h in
    ap (λ l. l ++ nodes (string_parts options following)) list_is
    ∙ append_assoc made (node.Piece n.Data 1 ∷ []) (nodes (string_parts options following))
    ∙ ap (λ l. made ++ l) (sym (string-plain options b following here))
    ∙ ap (λ (l : List ℕ). made ++ nodes (string_parts options l)) (sym is) ∙ before

module _ (options : InlineOptions) (is_definition is_footnote : List ℕ → Bool) (text : List ℕ) (start : ℕ) where
  abbrev items : List Item
  items =
      (brackets.content options is_definition is_footnote (length (drop start text)) false (take start text)
      (drop start text)).items

  abbrev read : Forest
  read = merged (emphasis options.gfm_strikethrough_single_tilde items)

  -- before addresses are searched
  abbrev pub read_nodes : List Node
  read_nodes =
      merged_onto
      (emphasis_nodes options.gfm_strikethrough_single_tilde
      (level_nodes options is_definition is_footnote text start)) []

  read-is : read_nodes ≡ nodes read
  read-is =
      ap (λ l. merged_onto l []) (sym (emphasis-nodes options.gfm_strikethrough_single_tilde items))
      ∙ sym (merged-nodes (emphasis options.gfm_strikethrough_single_tilde items))

  pub content-nodes : addressed options text start read_nodes ≡
      nodes (forest_after options is_definition is_footnote (take start text) (drop start text))
  content-nodes = go options.constructs.gfm_autolink_literal
    where
      go : (t : Bool) →
          cond t (merged_onto (searched text 0 start read_nodes) []) read_nodes ≡
          nodes (cond t (merged (with_emails (take start text) (drop start text) read)) read)
      go true =
          ap (λ (l : List Node). merged_onto (searched text 0 start l) []) read-is
          ∙ ap (λ (l : List Node). merged_onto l []) (searched-nodes text read start)
          ∙ sym (merged-nodes (with_emails (take start text) (drop start text) read))
      go false = read-is
