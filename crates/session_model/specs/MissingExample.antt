-- Which readers count as missing.
use Rattle.std.specs.Prelude.{◌≡◌, pos, false, [], ◌∷◌, Some, None, codes}
use Rattle.rx_value.specs.declared.value.Value.TheVariants.{Int, Text}
use Rattle.rx_value.specs.declared.source.SourceValue.TheVariants.{Plain}
use Rattle.app_tree.specs.declared.term.Read.TheVariants as read
use Rattle.app_tree.specs.Tree.{Tree, constant, get, stop, no_trees, tree, input, reactive, Shape}
use Rattle.session_model.specs.declared.state.ReaderState.{ReaderState}
use Rattle.session_model.specs.State.{SessionState, first_reader}
use Rattle.session_model.specs.Standing.{KeptSession, first_kept, missing_readers}

abbrev of_i : Tree
of_i = get (read.Input 0)

-- `input i = 7; reactive a { input$i } reactive b cache (input$i) { 1 } reactive c cache (input$i, stop("x")) { 1 }`
abbrev pub cached_ones : Shape
cached_ones = record {
  budget = 1000;
  items =
      input (codes "i") (Int (pos 7))
      ∷ reactive (codes "a") no_trees of_i
      ∷ reactive (codes "b") (tree of_i no_trees) (constant (Int (pos 1)))
      ∷ reactive (codes "c") (tree of_i (tree (stop (constant (Text (codes "x")))) no_trees)) (constant (Int (pos 1)))
      ∷ [];
}

abbrev alive_reader : ReaderState
alive_reader = record first_reader { dependencies = Some (record { sources = 0 ∷ []; changed = false }) }

abbrev pub all_alive : SessionState
all_alive = record {
  values = Plain (Int (pos 7)) ∷ [];
  readers = alive_reader ∷ alive_reader ∷ alive_reader ∷ [];
  boards = [];
}

abbrev pub session_keeping_none : KeptSession
session_keeping_none = record {
  values = Plain (Int (pos 7)) ∷ [];
  readers = first_kept ∷ first_kept ∷ first_kept ∷ [];
  running = None;
}

-- `a` and `b` are missing; a key of `c` fails, so its body would not be run
abbrev pub CountsTheMissing : Type 0
CountsTheMissing = missing_readers cached_ones session_keeping_none all_alive ≡ 2
