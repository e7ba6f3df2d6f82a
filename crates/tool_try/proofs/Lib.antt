pub mod ConcreteFiles
