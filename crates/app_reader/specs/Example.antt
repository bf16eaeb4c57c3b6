-- Tokens of worked examples.
use Rattle.std.specs.Prelude.{ℕ, zero, suc, ◌+◌, List, [], ◌∷◌, codes, pos, false}
use Rattle.rx_value.specs.declared.value.Value.TheVariants as v
use Rattle.app_tokens.specs.declared.token.Token.{Token}
use Rattle.app_tokens.specs.declared.token.Kind.TheVariants as kind
use Rattle.app_tokens.specs.declared.word.Word.TheVariants as word
use Rattle.app_tokens.specs.declared.symbol.Symbol.TheVariants as symbol
use Rattle.app_tokens.specs.Tokens.{Tokens}
use Rattle.app_tree.specs.DraftTree.{DraftTree, constant, group, no_trees, text, DraftShape}

-- input a 1;
abbrev pub input_without_sign : Tokens
input_without_sign = record {
  tokens =
      record { kind = kind.Word word.Input; place = 0; spelling = codes "input" }
      ∷ record { kind = kind.Name; place = 6; spelling = codes "a" }
      ∷ record { kind = kind.Number 1; place = 8; spelling = codes "1" }
      ∷ record { kind = kind.Symbol symbol.Semicolon; place = 9; spelling = codes ";" } ∷ [];
  end = 10;
}

-- so many opening brackets, the first at this place, and then the rest
abbrev pub opening_brackets : ℕ → ℕ → List Token → List Token
opening_brackets zero place rest = rest
opening_brackets (suc n) place rest = record { kind = kind.Symbol symbol.Open; place = place; spelling = codes "(" } ∷ opening_brackets n (place + 1) rest

-- and so with closing ones
abbrev pub closing_brackets : ℕ → ℕ → List Token → List Token
closing_brackets zero place rest = rest
closing_brackets (suc n) place rest = record { kind = kind.Symbol symbol.Close; place = place; spelling = codes ")" } ∷ closing_brackets n (place + 1) rest

-- text o {
abbrev pub output : List Token → List Token
output rest =
    record { kind = kind.Word word.Text; place = 0; spelling = codes "text" }
    ∷ record { kind = kind.Name; place = 5; spelling = codes "o" }
    ∷ record { kind = kind.Symbol symbol.OpenBrace; place = 7; spelling = codes "{" } ∷ rest

-- text o { ((((..
abbrev pub brackets_opened : Tokens
brackets_opened = record { tokens = output (opening_brackets 64 9 []); end = 73 }

-- text o { ((((.. 1 ..)))) }
abbrev pub brackets_closed : Tokens
brackets_closed = record {
  tokens = output (opening_brackets 63 9 (record { kind = kind.Number 1; place = 72; spelling = codes "1" } ∷ closing_brackets 63 73
      (record { kind = kind.Symbol symbol.CloseBrace; place = 137; spelling = codes "}" } ∷ [])));
  end = 138;
}

abbrev pub number_in_brackets : ℕ → DraftTree
number_in_brackets zero = constant (v.Int (pos 1))
number_in_brackets (suc n) = group (number_in_brackets n)

abbrev pub grouped_output : DraftShape
grouped_output = record {
  budget = 1000;
  items = record {
    place = 0;
    name = record { text = codes "o"; place = 5 };
    form = text (record { priority = pos 0; while_hidden = false; keys = no_trees; body = record { writes = []; term = number_in_brackets 63 } });
  } ∷ [];
}
