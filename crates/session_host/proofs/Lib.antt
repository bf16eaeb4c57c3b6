pub mod JournalGrows
pub mod FaithfulGrows
pub mod Handled
pub mod SendingTexts
pub mod Effects
pub mod Turns
pub mod First
