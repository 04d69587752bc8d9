-- Rows that the grammars compute.
use Rattle.std.proofs.Common.{◌≡◌, ℕ, true, false, List, [], ◌∷◌, ◌++◌, map, replicate, Bool, Option, Some, None, refl}
use Rattle.std.proofs.Common.{codes}
use Rattle.md_meaning.specs.Html.{HtmlKind, Raw, Comment, Instruction, Declaration, Cdata, Basic, Complete}
use Rattle.md_meaning.specs.Html.{html_kind, is_raw_end, html_ends, kind_after, is_raw_name, is_basic_name}
use Rattle.md_meaning.specs.Html.{begins_raw, begins_basic, begins_complete, ends_opening, after_attribute}
use Rattle.md_meaning.specs.Html.{after_assignment, after_value}
use Rattle.md_meaning.specs.Enclosed.{enclosed, enclosed_lines}
use Rattle.md_meaning.specs.Definition.{Defined, label_at, destination_at, balanced, title_at, definition_at}
use Rattle.md_meaning.specs.Definition.{cut_at_most, cut_definitions}
use Rattle.md_meaning.specs.Table.{pieces, row_cells, delimiter_columns, is_head}
use Rattle.md_meaning.specs.Label.{spaced}

abbrev kinds_rows : List (List ℕ × Option HtmlKind)
kinds_rows =
    (codes "<pre", Some Raw)
    ∷ (codes "<PRE x", Some Raw)
    ∷ (codes "<Script>", Some Raw)
    ∷ (codes "<pre />", Some Raw)
    ∷ (codes "<pre/>", Some Complete)
    ∷ (codes "</pre>", Some Complete)
    ∷ (codes "</pre >", Some Complete)
    ∷ (codes "<pre/ >", None)
    ∷ (codes "</pre", None)
    ∷ (codes "<!-->", Some Comment)
    ∷ (codes "<!--", Some Comment)
    ∷ (codes "<!-", None)
    ∷ (codes "<?>", Some Instruction)
    ∷ (codes "<!a", Some Declaration)
    ∷ (codes "<!1", None)
    ∷ (codes "<![CDATA[a]]]>", Some Cdata)
    ∷ (codes "<![cdata[", None)
    ∷ (codes "<div", Some Basic)
    ∷ (codes "</Div/>", Some Basic)
    ∷ (codes "<h1/>", Some Basic)
    ∷ (codes "<h7>", Some Complete)
    ∷ (codes "<h1/ >", None)
    ∷ (codes "<x y=/z>", Some Complete)
    ∷ (codes "<x>", Some Complete)
    ∷ (codes "<x/>", Some Complete)
    ∷ (codes "<x / >", None)
    ∷ (codes "<x  a b = " ++ 34 ∷ codes "c" ++ 34 ∷ codes " d= 'e'  :f-=g/ >", Some Complete)
    ∷ (codes "<x  a b = " ++ 34 ∷ codes "c" ++ 34 ∷ codes " d= 'e'  :f-=g />", Some Complete)
    ∷ (codes "<x a=>", None)
    ∷ (codes "<x a=" ++ 34 ∷ codes "b" ++ 34 ∷ codes "c>", None)
    ∷ (codes "<x> a", None)
    ∷ (codes "<a " ++ 195 ∷ 169 ∷ codes ">", None)
    ∷ (codes "<a" ++ 195 ∷ 169 ∷ codes ">", None)
    ∷ (codes "<a b=" ++ 195 ∷ 169 ∷ codes ">", Some Complete)
    ∷ (codes "< a>", None)
    ∷ (codes "<1>", None)
    ∷ (codes "</x y>", None)
    ∷ (codes "<", None)
    ∷ ([], None)
    ∷ (codes "a", None)
    ∷ (codes "<pre-x>", Some Complete)
    ∷ (codes "<x a=`>", None)
    ∷ (codes "<x a=" ++ 34 ∷ [], None)
    ∷ []

-- the kind that begins at each text
kinds : map (λ row. html_kind row.0) kinds_rows ≡ map (λ row. row.1) kinds_rows
unfolding html_kind kind_after is_raw_name is_basic_name begins_raw begins_basic begins_complete ends_opening
    after_attribute after_assignment after_value
kinds = refl

abbrev ends_raw_rows : List (List ℕ × Bool)
ends_raw_rows =
    (codes "</pre>", true)
    ∷ (codes "a</STYLE>b", true)
    ∷ (codes "</pre >", false)
    ∷ (codes "</div>", false)
    ∷ (codes "</scrip</script>", true)
    ∷ []

-- whether each text holds the end of this kind
ends_raw : map (λ row. html_ends Raw row.0) ends_raw_rows ≡ map (λ row. row.1) ends_raw_rows
unfolding html_ends is_raw_end
ends_raw = refl

abbrev ends_comment_rows : List (List ℕ × Bool)
ends_comment_rows =
    (codes "<!-->", true)
    ∷ (codes "<!--->", true)
    ∷ (codes "-- >", false)
    ∷ (codes "<!--", false)
    ∷ []

-- whether each text holds the end of this kind
ends_comment : map (λ row. html_ends Comment row.0) ends_comment_rows ≡ map (λ row. row.1) ends_comment_rows
unfolding html_ends is_raw_end
ends_comment = refl

abbrev ends_instruction_rows : List (List ℕ × Bool)
ends_instruction_rows =
    (codes "<?>", true)
    ∷ (codes "?", false)
    ∷ []

-- whether each text holds the end of this kind
ends_instruction : map (λ row. html_ends Instruction row.0) ends_instruction_rows ≡
    map (λ row. row.1) ends_instruction_rows
unfolding html_ends is_raw_end
ends_instruction = refl

abbrev ends_declaration_rows : List (List ℕ × Bool)
ends_declaration_rows =
    (codes "<!a>", true)
    ∷ (codes "<!a", false)
    ∷ []

-- whether each text holds the end of this kind
ends_declaration : map (λ row. html_ends Declaration row.0) ends_declaration_rows ≡
    map (λ row. row.1) ends_declaration_rows
unfolding html_ends is_raw_end
ends_declaration = refl

abbrev ends_cdata_rows : List (List ℕ × Bool)
ends_cdata_rows =
    (codes "<![CDATA[a]]]>", true)
    ∷ (codes "]] >", false)
    ∷ (codes "]]", false)
    ∷ []

-- whether each text holds the end of this kind
ends_cdata : map (λ row. html_ends Cdata row.0) ends_cdata_rows ≡ map (λ row. row.1) ends_cdata_rows
unfolding html_ends is_raw_end
ends_cdata = refl

abbrev ends_basic_rows : List (List ℕ × Bool)
ends_basic_rows =
    ([], false)
    ∷ (codes "</div>", false)
    ∷ []

-- whether each text holds the end of this kind
ends_basic : map (λ row. html_ends Basic row.0) ends_basic_rows ≡ map (λ row. row.1) ends_basic_rows
unfolding html_ends is_raw_end
ends_basic = refl

abbrev definitions_rows : List (List (List ℕ) × (List Defined × List (List ℕ)))
definitions_rows =
    ((codes "[a]: b") ∷ [], (record { label = ((codes "a") ∷ []); destination = codes "b"; title = None } ∷ [], []))
    ∷ (
      (codes "[a]: b") ∷ (codes "=") ∷ (codes "c") ∷ [],
      (
        record { label = ((codes "a") ∷ []); destination = codes "b"; title = None } ∷ [],
        (codes "=") ∷ (codes "c") ∷ [],
      ),
    )
    ∷ (
      (codes "[a") ∷ (codes "b]: c") ∷ [],
      (record { label = ((codes "a") ∷ (codes "b") ∷ []); destination = codes "c"; title = None } ∷ [], []),
    )
    ∷ (
      (codes "[A]: x") ∷ (codes "[" ++ 195 ∷ 159 ∷ codes "]: y 'z'") ∷ [],
      (
        record { label = ((codes "A") ∷ []); destination = codes "x"; title = None }
            ∷ record { label = ((195 ∷ 159 ∷ []) ∷ []); destination = codes "y"; title = Some ((codes "z") ∷ []) } ∷ [],
        [],
      ),
    )
    ∷ ((codes "[a]:b") ∷ [], (record { label = ((codes "a") ∷ []); destination = codes "b"; title = None } ∷ [], []))
    ∷ (
      (codes "[a]:") ∷ (codes "b") ∷ [],
      (record { label = ((codes "a") ∷ []); destination = codes "b"; title = None } ∷ [], []),
    )
    ∷ (
      (codes "[a]:") ∷ (codes "b") ∷ (codes "'c") ∷ (codes "d' ") ∷ [],
      (
        record { label = ((codes "a") ∷ []); destination = codes "b"; title = Some ((codes "c") ∷ (codes "d") ∷ []) }
            ∷ [],
        [],
      ),
    )
    ∷ (
      (codes "[a]: b") ∷ (codes "'c' d") ∷ [],
      (record { label = ((codes "a") ∷ []); destination = codes "b"; title = None } ∷ [], (codes "'c' d") ∷ []),
    )
    ∷ (
      (codes "[a]: b") ∷ (codes "x") ∷ [],
      (record { label = ((codes "a") ∷ []); destination = codes "b"; title = None } ∷ [], (codes "x") ∷ []),
    )
    ∷ (
      (codes "[a]: b " ++ 34 ∷ codes "c" ++ 34 ∷ codes " x") ∷ [],
      ([], (codes "[a]: b " ++ 34 ∷ codes "c" ++ 34 ∷ codes " x") ∷ []),
    )
    ∷ (
      (codes "[a]: b" ++ 34 ∷ codes "c" ++ 34 ∷ []) ∷ [],
      (
        record { label = ((codes "a") ∷ []); destination = codes "b" ++ 34 ∷ codes "c" ++ 34 ∷ []; title = None } ∷ [],
        [],
      ),
    )
    ∷ ((codes "[a]: <b>" ++ 34 ∷ codes "c" ++ 34 ∷ []) ∷ [], ([], (codes "[a]: <b>" ++ 34 ∷ codes "c" ++ 34 ∷ []) ∷ []))
    ∷ (
      (codes "[a]: <> " ++ 34 ∷ codes "c" ++ 34 ∷ []) ∷ [],
      (record { label = ((codes "a") ∷ []); destination = []; title = Some ((codes "c") ∷ []) } ∷ [], []),
    )
    ∷ ((codes "[a]: <b" ++ 92 ∷ codes ">") ∷ [], ([], (codes "[a]: <b" ++ 92 ∷ codes ">") ∷ []))
    ∷ (
      (codes "[a]: <b" ++ 92 ∷ codes ">c>") ∷ [],
      (record { label = ((codes "a") ∷ []); destination = codes "b" ++ 92 ∷ codes ">c"; title = None } ∷ [], []),
    )
    ∷ ((codes "[a]: (" ++ 92 ∷ codes ")") ∷ [], ([], (codes "[a]: (" ++ 92 ∷ codes ")") ∷ []))
    ∷ ((codes "[a]:)(") ∷ [], ([], (codes "[a]:)(") ∷ []))
    ∷ (
      (codes "[a]: (b(c)" ++ 92 ∷ codes "))")
          ∷ [],
      (
        record { label = ((codes "a") ∷ []); destination = codes "(b(c)" ++ 92 ∷ codes "))"; title = None }
            ∷ [],
        [],
      ),
    )
    ∷ (
      (codes "[a]: b" ++ 92 ∷ []) ∷ [],
      (record { label = ((codes "a") ∷ []); destination = codes "b" ++ 92 ∷ []; title = None } ∷ [], []),
    )
    ∷ ((codes "[a]:b '" ++ 92 ∷ codes "'") ∷ [], ([], (codes "[a]:b '" ++ 92 ∷ codes "'") ∷ []))
    ∷ (
      (codes "[a]:b '" ++ 92 ∷ 92 ∷ codes "'") ∷ [],
      (record { label = ((codes "a") ∷ []); destination = codes "b"; title = Some ((92 ∷ 92 ∷ []) ∷ []) } ∷ [], []),
    )
    ∷ ((codes "[a]: b (c" ++ 92 ∷ codes ")") ∷ [], ([], (codes "[a]: b (c" ++ 92 ∷ codes ")") ∷ []))
    ∷ ((codes "[a]: b (c(d))") ∷ [], ([], (codes "[a]: b (c(d))") ∷ []))
    ∷ (
      (
          codes "[a]: b (c" ++ 92 ∷ codes "()") ∷ [],
      (
        record {
          label = ((codes "a") ∷ []);
          destination = codes "b";
          title = Some ((codes "c" ++ 92 ∷ codes "(") ∷ []);
        } ∷ [],
        [],
      ),
    )
    ∷ (
      (codes "[") ∷ (codes "a]:b") ∷ [],
      (record { label = ([] ∷ (codes "a") ∷ []); destination = codes "b"; title = None } ∷ [], []),
    )
    ∷ (
      (codes "[a") ∷ (codes "]:b") ∷ [],
      (record { label = ((codes "a") ∷ [] ∷ []); destination = codes "b"; title = None } ∷ [], []),
    )
    ∷ (
      (codes "[a]:b '") ∷ (codes "a'") ∷ [],
      (record { label = ((codes "a") ∷ []); destination = codes "b"; title = Some ([] ∷ (codes "a") ∷ []) } ∷ [], []),
    )
    ∷ (
      (codes "[a]:b '") ∷ (codes "'") ∷ [],
      (record { label = ((codes "a") ∷ []); destination = codes "b"; title = Some ([] ∷ [] ∷ []) } ∷ [], []),
    )
    ∷ (
      (codes "[a]:b ''") ∷ [],
      (record { label = ((codes "a") ∷ []); destination = codes "b"; title = Some ([] ∷ []) } ∷ [], []),
    )
    ∷ ((codes "[ " ++ 9 ∷ codes "]: b") ∷ [], ([], (codes "[ " ++ 9 ∷ codes "]: b") ∷ []))
    ∷ ((codes "[a[b]: c") ∷ [], ([], (codes "[a[b]: c") ∷ []))
    ∷ (
      (codes "[a" ++ 92 ∷ codes "]b]: c")
          ∷ [],
      (record { label = ((codes "a" ++ 92 ∷ codes "]b") ∷ []); destination = codes "c"; title = None } ∷ [], []),
    )
    ∷ (
      (codes "[a" ++ 92 ∷ 92 ∷ codes "]: c") ∷ [],
      (record { label = ((codes "a" ++ 92 ∷ 92 ∷ []) ∷ []); destination = codes "c"; title = None } ∷ [], []),
    )
    ∷ ((codes "[a] : c") ∷ [], ([], (codes "[a] : c") ∷ []))
    ∷ ((codes "[a]:") ∷ [], ([], (codes "[a]:") ∷ []))
    ∷ ((codes "[a]: b" ++ 11 ∷ []) ∷ [], ([], (codes "[a]: b" ++ 11 ∷ []) ∷ []))
    ∷ (
      (codes "[a]: " ++ 194 ∷ 160 ∷ []) ∷ [],
      (record { label = ((codes "a") ∷ []); destination = 194 ∷ 160 ∷ []; title = None } ∷ [], []),
    )
    ∷ (
      (codes "[" ++ 11 ∷ codes "]:a") ∷ [],
      (record { label = ((11 ∷ []) ∷ []); destination = codes "a"; title = None } ∷ [], []),
    )
    ∷ (
      (codes "[a]: b" ++ 9 ∷ 34 ∷ codes "c" ++ 34 ∷ 9 ∷ []) ∷ [],
      (record { label = ((codes "a") ∷ []); destination = codes "b"; title = Some ((codes "c") ∷ []) } ∷ [], []),
    )
    ∷ ((codes "a") ∷ [], ([], (codes "a") ∷ []))
    ∷ []

-- the definitions that are cut from the front of the lines, and the lines that remain
definitions : map (λ row. cut_definitions row.0) definitions_rows ≡ map (λ row. row.1) definitions_rows
unfolding label_at enclosed_lines enclosed destination_at balanced title_at definition_at cut_at_most cut_definitions
definitions = refl

-- a label of 999 bytes, and one of 1000 bytes, of which the whitespace before an ending counts and the ending does not
long_label : cut_definitions ((91 ∷ (replicate 999 97 ++ codes "]: b")) ∷ []) ≡
    (record { label = replicate 999 97 ∷ []; destination = codes "b"; title = None } ∷ [], [])
unfolding label_at enclosed_lines enclosed destination_at balanced title_at definition_at cut_at_most cut_definitions
long_label = refl

longer_label : cut_definitions ((91 ∷ (replicate 998 97 ++ codes "  ")) ∷ codes "]:b" ∷ []) ≡
    ([], (91 ∷ (replicate 998 97 ++ codes "  ")) ∷ codes "]:b" ∷ [])
unfolding label_at enclosed_lines enclosed destination_at balanced title_at definition_at cut_at_most cut_definitions
longer_label = refl

abbrev cells_rows : List (List ℕ × List (List ℕ))
cells_rows =
    (codes "| a | b |", ((codes "a") ∷ (codes "b") ∷ []))
    ∷ (codes "a|b", ((codes "a") ∷ (codes "b") ∷ []))
    ∷ (codes "|", ([] ∷ []))
    ∷ (codes "||", ([] ∷ []))
    ∷ (codes "|||", ([] ∷ [] ∷ []))
    ∷ (codes "a|", ((codes "a") ∷ []))
    ∷ (codes "| c |", ((codes "c") ∷ []))
    ∷ (
      codes " " ++ 9 ∷ codes "a " ++ 92 ∷ codes "| b | c" ++ 92 ∷ 92 ∷ codes "|d" ++ 92 ∷ [],
      ((codes "a " ++ 92 ∷ codes "| b") ∷ (codes "c" ++ 92 ∷ 92 ∷ []) ∷ (codes "d" ++ 92 ∷ []) ∷ []),
    )
    ∷ ([], ([] ∷ []))
    ∷ (codes "|  |", ([] ∷ []))
    ∷ (codes "d | e | f | ", ((codes "d") ∷ (codes "e") ∷ (codes "f") ∷ []))
    ∷ (92 ∷ codes "|", ((92 ∷ codes "|") ∷ []))
    ∷ (codes "a||b", ((codes "a") ∷ [] ∷ (codes "b") ∷ []))
    ∷ []

-- the cells of each row
cells : map (λ row. row_cells row.0) cells_rows ≡ map (λ row. row.1) cells_rows
unfolding row_cells pieces
cells = refl

abbrev delimiters_rows : List (List ℕ × Option ℕ)
delimiters_rows =
    (codes "--|--", Some 2)
    ∷ (codes ":-", Some 1)
    ∷ (codes "-|", Some 1)
    ∷ (codes "|-", Some 1)
    ∷ (codes "| - | :-: |", Some 2)
    ∷ (codes "-", None)
    ∷ (codes "|", None)
    ∷ (codes "||", None)
    ∷ (codes "-||", None)
    ∷ (codes ":", None)
    ∷ (codes "::", None)
    ∷ (codes ":-:|-x", None)
    ∷ (codes "- -|", None)
    ∷ (codes "-:-|", None)
    ∷ (codes "-" ++ 92 ∷ codes "|-", None)
    ∷ (codes ":--:", Some 1)
    ∷ []

-- how many columns each delimiter row has
delimiters : map (λ row. delimiter_columns row.0) delimiters_rows ≡ map (λ row. row.1) delimiters_rows
unfolding delimiter_columns row_cells pieces
delimiters = refl

abbrev heads_rows : List (List ℕ × Bool)
heads_rows =
    (codes "a", true)
    ∷ (codes "|", false)
    ∷ (codes " |" ++ 9 ∷ [], false)
    ∷ (codes "||", true)
    ∷ (codes "-|-", true)
    ∷ []

-- whether each line may be a head
heads : map (λ row. is_head row.0) heads_rows ≡ map (λ row. row.1) heads_rows
unfolding is_head
heads = refl

abbrev spaces_rows : List (List (List ℕ) × List ℕ)
spaces_rows =
    ((codes "a") ∷ [], (codes "a"))
    ∷ ((codes "a") ∷ (codes "b") ∷ [], (codes "a b"))
    ∷ ((codes "  a " ++ 9 ∷ codes " b ") ∷ [] ∷ (codes "c") ∷ [], (codes "a b c"))
    ∷ ((11 ∷ []) ∷ [], (11 ∷ []))
    ∷ ([] ∷ (codes "a") ∷ [], (codes "a"))
    ∷ ((codes "a" ++ 194 ∷ 160 ∷ codes " b") ∷ [], (codes "a" ++ 194 ∷ 160 ∷ codes " b"))
    ∷ []

-- the lines of each label as one
spaces : map (λ row. spaced row.0) spaces_rows ≡ map (λ row. row.1) spaces_rows
spaces = refl
