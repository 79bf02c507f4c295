pub mod Sentences
pub mod SystemTexts
pub mod Uses
