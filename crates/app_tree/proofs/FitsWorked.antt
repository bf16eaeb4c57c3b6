-- The worked examples of what a text can give, each found by computing.
use Rattle.std.proofs.Common.{refl}
use Rattle.std.specs.Str.{is_utf8, chars}
use Rattle.rx_value.specs.Names.{is_reserved}
use Rattle.app_tree.specs.FitsExamples.{FoldFits, ReservedVariable, DigitFirst, NoLetter, ParameterFits, ReservedParameter, AnyItemName, AccentFits, HalfAnAccent}

pub fold_fits : FoldFits
unfolding is_reserved
fold_fits = refl

pub reserved_variable : ReservedVariable
unfolding is_reserved
reserved_variable = refl

pub digit_first : DigitFirst
digit_first = refl

pub no_letter : NoLetter
no_letter = refl

pub parameter_fits : ParameterFits
unfolding is_reserved
parameter_fits = refl

pub reserved_parameter : ReservedParameter
unfolding is_reserved
reserved_parameter = refl

pub any_item_name : AnyItemName
any_item_name = refl

pub accent_fits : AccentFits
unfolding is_utf8 chars lib.Utf8.encode
accent_fits = refl

pub half_an_accent : HalfAnAccent
unfolding is_utf8 chars lib.Utf8.encode
half_an_accent = refl
