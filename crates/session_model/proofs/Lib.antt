pub mod MissingExample
pub mod FaithfulComputed
pub mod StepsComputed
pub mod StandingRefused
