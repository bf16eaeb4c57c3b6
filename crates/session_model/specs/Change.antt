-- A change of a source: setting it to the value that it has does nothing.
use Rattle.std.specs.Prelude.{ℕ, suc, true, List, [], ◌∷◌, map, Option, Some, None, slice_set, if◌then◌else◌}
use Rattle.rx_value.specs.declared.source.SourceValue.{SourceValue}
use Rattle.rx_value.specs.declared.source.SourceValue.TheVariants.{Plain, Frozen}
use Rattle.rx_value.specs.Value.{source_eq}
use Rattle.app_tree.specs.Current.{value_at}
use Rattle.app_tree.specs.Fresh.{is_among}
use Rattle.session_model.specs.declared.state.Dependencies.{Dependencies}
use Rattle.session_model.specs.declared.state.ReaderState.{ReaderState}
use Rattle.session_model.specs.State.{SessionState}

abbrev pub marked_dependencies : ℕ → Option Dependencies → Option Dependencies
marked_dependencies s None = None
marked_dependencies s (Some d) = Some (if is_among s d.sources then record d { changed = true } else d)

-- a reader whose last run reached source s is no longer alive
abbrev pub marked_reader : ℕ → ReaderState → ReaderState
marked_reader s r = record r { dependencies = marked_dependencies s r.dependencies }

abbrev pub with_source_value : ℕ → SourceValue → SessionState → SessionState
with_source_value s x state = record state {
  values = slice_set state.values s x;
  readers = map (marked_reader s) state.readers;
}

abbrev pub change : ℕ → SourceValue → SessionState → SessionState
change s x state = if source_eq (value_at state.values s) x then state else with_source_value s x state

-- ---- frozen inputs

-- what a source becomes when its input is frozen; an input that is frozen stays so
abbrev pub frozen_value : SourceValue → SourceValue
frozen_value (Plain x) = Frozen x
frozen_value other = other

-- what a source becomes when it thaws; nothing else is frozen, so each other source keeps its value
abbrev pub thawed_value : SourceValue → SourceValue
thawed_value (Frozen x) = Plain x
thawed_value other = other

-- each source from number s on thaws
abbrev pub thaw_from : ℕ → List SourceValue → SessionState → SessionState
thaw_from s [] state = state
thaw_from s (x ∷ more) state = thaw_from (suc s) more (change s (thawed_value x) state)

-- each frozen input thaws, in rising number: that is a change of it
abbrev pub thaw : SessionState → SessionState
thaw state = thaw_from 0 state.values state
