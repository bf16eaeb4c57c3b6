-- Client messages, each case by computing.
use Rattle.std.proofs.Common.{refl}
use Rattle.worked_examples.specs.MessageCases.{InputTypes, MessageThatIsNotJson, MessageThatIsNoObject, UpdateBeforeTheInit, SecondInit, TwoNamesOfOneInput}
use Rattle.worked_examples.proofs.OnLiterals.{files_on_literals}

pub input_types : InputTypes
unfolding files_on_literals
input_types = refl

pub message_that_is_not_json : MessageThatIsNotJson
unfolding files_on_literals
message_that_is_not_json = refl

pub message_that_is_no_object : MessageThatIsNoObject
unfolding files_on_literals
message_that_is_no_object = refl

pub update_before_the_init : UpdateBeforeTheInit
unfolding files_on_literals
update_before_the_init = refl

pub second_init : SecondInit
unfolding files_on_literals
second_init = refl

pub two_names_of_one_input : TwoNamesOfOneInput
unfolding files_on_literals
two_names_of_one_input = refl
