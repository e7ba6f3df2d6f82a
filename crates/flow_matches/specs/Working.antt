pub mod SameNodes
pub mod ExitViews
pub mod SideViews
pub mod WholeSides
pub mod TextWalks
